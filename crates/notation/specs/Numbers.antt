-- The number that digits write. Assumes nothing.
use Rattle.std.specs.Prelude.{ℕ, ◌^◌, Bool, ◌&&◌, List, length, Option, nat_le, nat_lt}
use Rattle.std.specs.Bool.{then_some}
use Rattle.std.specs.Str.Parse.{digits_value}
use Rattle.std.specs.Str.{all_ascii_digits}

-- one to ten digits, leading zeros among them, of a number that 32 bits hold
abbrev pub is_number : List ℕ → Bool
is_number bs = nat_le 1 (length bs) && (nat_le (length bs) 10 && (all_ascii_digits bs && nat_lt (digits_value 10 bs) (2 ^ 32)))

-- the number that bs write, if they write one
abbrev pub number : List ℕ → Option ℕ
number bs = then_some (is_number bs) (digits_value 10 bs)
