-- A set of numbers as the bits of bytes: number k is bit k % 8 of byte k / 8, bit 0 lowest. Assumes nothing.
use Rattle.std.specs.Prelude.{◌≡◌, ℕ, zero, suc, ◌+◌, ◌-◌, ◌*◌, ◌/◌, ◌%◌, ◌^◌, ◌<◌, min, List, map, length, slice_index}
use Rattle.std.specs.List.{range_with_len}

-- a list of n bytes
abbrev pub Bytes : ℕ → List ℕ → Type 0
Bytes n bs = (length bs ≡ n) × ((i : ℕ) → i < n → slice_index bs i < 256)

-- digit j of a number in base two
abbrev pub bit : ℕ → ℕ → ℕ
bit b j = b / 2 ^ j % 2

-- 1 if k is in the set that the bytes keep, and 0 if not
unfoldable pub bit_of : List ℕ → ℕ → ℕ
bit_of bs k = bit (slice_index bs (k / 8)) (k % 8)

-- the lowest n bits of a byte
abbrev pub mask : ℕ → ℕ
mask n = 2 ^ min n 8 - 1

-- the number with m binary digits, digit j being 0 where f is
unfoldable pub binary : ℕ → (ℕ → ℕ) → ℕ
binary zero f = 0
binary (suc m) f = min (f 0) 1 + 2 * binary m (λ j. f (suc j))

-- the n bytes whose bit k is 0 where f is
unfoldable pub bytes_of : ℕ → (ℕ → ℕ) → List ℕ
bytes_of n f = map (λ i. binary 8 (λ j. f (i * 8 + j))) (range_with_len 0 n)
