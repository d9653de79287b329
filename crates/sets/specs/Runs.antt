-- A set of numbers as runs, in rising order with a gap between each two, in a fixed number of places. Assumes nothing.
use Rattle.std.specs.Prelude.{ℕ, zero, suc, ◌-◌, max, Bool, true, cond, ◌&&◌, List, [], ◌∷◌, ◌++◌, length, replicate, Ok, Err, Result, ◌==◌, nat_le, nat_lt}
use Rattle.kind.specs.declared.refusal.AmountRefusal.{AmountRefusal}
use Rattle.kind.specs.declared.refusal.AmountRefusal.TheVariants.{BadRun}
use Rattle.sets.specs.declared.run.Run.{Run}

abbrev pub run : ℕ → ℕ → Run
run from to = record { from = from; to = to }

-- is from..to a run of numbers below n?
abbrev pub is_run : ℕ → ℕ → ℕ → Bool
is_run n from to = nat_lt from to && nat_le to n

-- the run from..to of numbers below n, refused unless that is one
abbrev pub make_run : ℕ → ℕ → ℕ → Result Run AmountRefusal
make_run n from to = cond (is_run n from to) (Ok (run from to)) (Err BadRun)

-- an unused place
abbrev pub blank : Run
blank = run 0 0

abbrev pub is_blank : Run → Bool
is_blank r = r.from == 0 && r.to == 0

-- 1 from `from` up to `to` - 1, and 0 elsewhere
abbrev pub within : ℕ → ℕ → ℕ → ℕ
within from to k = cond (nat_le from k && nat_lt k to) 1 0

-- 1 if k is in one of the runs, and 0 if not
unfoldable pub covered : List Run → ℕ → ℕ
covered [] k = 0
covered (r ∷ rs) k = max (within r.from r.to k) (covered rs k)

-- are all places unused?
unfoldable pub all_blank : List Run → Bool
all_blank [] = true
all_blank (r ∷ rs) = is_blank r && all_blank rs

-- does each run have a number and end by n, the first begin at `low` or above and each other above the end of the one before,
-- and are all places after the runs unused?
unfoldable pub ordered : ℕ → ℕ → List Run → Bool
ordered n low [] = true
ordered n low (r ∷ rs) =
    cond (is_blank r) (all_blank rs)
    (nat_le low r.from && (nat_lt r.from r.to && (nat_le r.to n && ordered n (suc r.to) rs)))

-- are these m places with runs of numbers below n in order?
abbrev pub tidy : ℕ → ℕ → List Run → Bool
tidy n m rs = length rs == m && ordered n 0 rs

-- k in front of the runs above it: the first run grows if it begins at k + 1, and else k is a run of its own
unfoldable pub put_before : ℕ → List Run → List Run
put_before k [] = run k (suc k) ∷ []
put_before k (r ∷ rs) = cond (r.from == suc k) (run k r.to ∷ rs) (run k (suc k) ∷ r ∷ rs)

-- the runs of those of the d numbers from k on at which f is not 0
unfoldable pub runs_from : (ℕ → ℕ) → ℕ → ℕ → List Run
runs_from f zero k = []
runs_from f (suc d) k = cond (f k == 0) (runs_from f d (suc k)) (put_before k (runs_from f d (suc k)))

-- the runs of the numbers below n at which f is not 0
abbrev pub runs_of : ℕ → (ℕ → ℕ) → List Run
runs_of n f = runs_from f n 0

-- runs in m places
unfoldable pub in_places : ℕ → List Run → List Run
in_places m rs = rs ++ replicate (m - length rs) blank
