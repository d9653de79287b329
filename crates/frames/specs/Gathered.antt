-- Bits of two lists of bytes, gathered in one byte. Assumes nothing.
use Rattle.std.specs.Prelude.{ℕ, ◌-◌, List, fold, bit_and, bit_or}
use Rattle.std.specs.List.{zip}

-- all the bits that f gives of the two bytes at some place
abbrev pub gathered : (ℕ → ℕ → ℕ) → List ℕ → List ℕ → ℕ
gathered f xs ys = fold (λ all p. bit_or all (f p.0 p.1)) 0 (zip xs ys)

-- the bits of the byte y that the byte x lacks
abbrev pub missing : ℕ → ℕ → ℕ
missing x y = bit_and (255 - x) y
