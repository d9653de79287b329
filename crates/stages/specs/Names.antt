-- The name of a stage: one to thirty-two visible bytes. Assumes nothing.
use Rattle.std.specs.Prelude.{ℕ, Bool, true, ◌&&◌, List, [], ◌∷◌, length, Option, nat_le}
use Rattle.std.specs.Bool.{then_some}
use Rattle.std.specs.Char.{is_ascii_graphic}

-- is each byte a letter, a digit or a mark, from 33 to 126?
unfoldable pub all_visible : List ℕ → Bool
all_visible [] = true
all_visible (b ∷ bs) = is_ascii_graphic b && all_visible bs

abbrev pub is_name : List ℕ → Bool
is_name bs = nat_le 1 (length bs) && (nat_le (length bs) 32 && all_visible bs)

-- the bytes, if they are a name
abbrev pub name : List ℕ → Option (List ℕ)
name bs = then_some (is_name bs) bs
