-- Windows as a set of numbers below `second_count`.
use Rattle.std.specs.Prelude.{◌≡◌, ℕ, ◌<◌, cond, List, Ok, Err, Result}
use Rattle.std.proofs.Common.{arith}
use Rattle.kind.specs.Algebra.{Answers}
use Rattle.kind.specs.declared.refusal.AmountRefusal.{AmountRefusal}
use Rattle.kind.specs.declared.refusal.AmountRefusal.TheVariants.{BadRun}
use Rattle.sets.specs.Members.{DisjointUnion, set_answers}
use Rattle.sets.specs.Runs.{covered, within, is_run, runs_of, in_places}
use Rattle.sets.specs.declared.run.Run.{Run}
use Rattle.sets.proofs.Scans.{places_keep}
use Rattle.windows.specs.Sizes.{second_count, window_places}
use Rattle.windows.specs.declared.windows.Windows.{Windows}

-- 1 if second k is in the set, and 0 if not
abbrev pub window : Windows → ℕ → ℕ
window x k = covered x.runs k

-- the seconds at which f is not 0
abbrev pub windows_of : (ℕ → ℕ) → Windows
windows_of f = record {
  runs = in_places window_places (runs_of second_count f);
  sound = places_keep second_count window_places (omega arith) f;
}

-- the seconds from..to, refused unless that is a run
abbrev pub make_windows : ℕ → ℕ → Result Windows AmountRefusal
make_windows from to = cond (is_run second_count from to) (Ok (windows_of (within from to))) (Err BadRun)

-- the runs of the set, lowest first
abbrev pub window_runs : Windows → List Run
window_runs x = runs_of second_count (window x)

-- some second of x is in y (v is 1), or is not in y (v is 0)
abbrev pub Reaches : Windows → Windows → ℕ → Type 0
Reaches x y v = (k : ℕ) × (k < second_count) × (window x k ≡ 1) × (window y k ≡ v)

-- x and y make z if they share no second and z is their union
abbrev pub Unites : Windows → Windows → Windows → Type 0
Unites = DisjointUnion second_count window

abbrev pub windows_answers : Answers Windows
windows_answers = set_answers second_count window windows_of
