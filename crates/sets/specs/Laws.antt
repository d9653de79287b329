-- Bytes and runs keep sets of numbers, each set in one way. Assumes nothing.
use Rattle.std.specs.Prelude.{◌≡◌, ℕ, ◌*◌, ◌<◌, ◌≤◌, min, true, List}
use Rattle.sets.specs.Bytes.{Bytes, bit_of, bytes_of}
use Rattle.sets.specs.Runs.{covered, tidy, runs_of, in_places}
use Rattle.sets.specs.declared.run.Run.{Run}

-- n bytes keep each choice of numbers below n * 8
abbrev pub BytesKeepSets : Type 0
BytesKeepSets = (n : ℕ) (f : ℕ → ℕ) → Bytes n (bytes_of n f) × ((k : ℕ) → k < n * 8 → bit_of (bytes_of n f) k ≡ min (f k) 1)

-- and no two lists of n bytes keep the same
abbrev pub BytesDiffer : Type 0
BytesDiffer = (n : ℕ) (xs ys : List ℕ) → Bytes n xs → Bytes n ys → ((k : ℕ) → k < n * 8 → bit_of xs k ≡ bit_of ys k) → xs ≡ ys

-- m places keep each choice of numbers below n, as long as n is at most 2 * m
abbrev pub RunsKeepSets : Type 0
RunsKeepSets =
    (n m : ℕ) → n ≤ m * 2 → (f : ℕ → ℕ)
    → (tidy n m (in_places m (runs_of n f)) ≡ true) × ((k : ℕ) → k < n → covered (in_places m (runs_of n f)) k ≡ min (f k) 1)

-- and no two lists of tidy runs keep the same
abbrev pub RunsDiffer : Type 0
RunsDiffer =
    (n m : ℕ) (xs ys : List Run) → tidy n m xs ≡ true → tidy n m ys ≡ true → ((k : ℕ) → k < n → covered xs k ≡ covered ys k) → xs ≡ ys
