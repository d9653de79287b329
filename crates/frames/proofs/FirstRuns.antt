-- The first run of a set, from its first number and the first that it lacks after that.
use Rattle.std.proofs.Common.{◌≡◌, ℕ, ◌+◌, ◌-◌, ◌<◌, ◌≤◌, List, ◌++◌, length, Option, Some, None, MatchOption, unwrap_or, ap, ◌∙◌, ⊎_elim, arith}
use Rattle.std.proofs.lemmas.Bool.{cases_eq}
use Rattle.std.proofs.lemmas.List.{length-append}
use Rattle.sets.specs.Runs.{run, runs_from, runs_of}
use Rattle.sets.specs.declared.run.Run.{Run}
use Rattle.sets.proofs.Scans.{scan_few}
use Rattle.sets.proofs.Firsts.{scan_skip, scan_first}
use Rattle.frames.specs.Listed.{FirstRun}

-- r is the first number from k on at which f is v, and before it f is w
abbrev pub IsFirst : (ℕ → ℕ) → ℕ → ℕ → ℕ → Option ℕ → Type 0
IsFirst f v w k r =
    MatchOption r ((j : ℕ) → k ≤ j → j < 256 → f j ≡ w)
    (λ i. (k ≤ i) × (i < 256) × (f i ≡ v) × ((j : ℕ) → k ≤ j → j < i → f j ≡ w))

pub no_run : (f : ℕ → ℕ) (k : ℕ) → k ≤ 256 → IsFirst f 1 0 k None → FirstRun f k None
unfolding runs_from
no_run f k le out =
    let none : 256 - 256 ≡ 0 = omega arith in
    scan_skip f 256 k (256 - k) 256 (omega arith) (omega arith) out ∙ ap (λ d. runs_from f d 256) none

-- a run ends where the set does next, or at the end
ends : (f : ℕ → ℕ) (from : ℕ) (to : Option ℕ) → from < 256 → f from ≡ 1 → IsFirst f 0 1 from to
    → (from < unwrap_or to 256) × (unwrap_or to 256 ≤ 256) × (unwrap_or to 256 < 256 → f (unwrap_or to 256) ≡ 0) × ((j : ℕ) → from ≤ j → j < unwrap_or to 256 → f j ≡ 1)
ends f from None lt in-it e = (lt, omega arith, λ h. absurd (omega arith), e)
ends f from (Some to) lt in-it e =
    (⊎_elim (λ (eq : from ≡ to). absurd (omega (arith, ap f eq, in-it, e.2))) (λ (ne : from ≡ to → ⊥). omega (arith, ne, e.0)) (cases_eq from to), omega (arith, e.1), λ _. e.2, e.3)

pub first_run : (f : ℕ → ℕ) (k from : ℕ) (to : Option ℕ) → IsFirst f 1 0 k (Some from) → IsFirst f 0 1 from to → FirstRun f k (Some (run from (unwrap_or to 256)))
first_run f k from to s t =
    let e = ends f from to s.1 s.2 t in
    let end = unwrap_or to 256 in (
      omega (arith, s.0, e.0),
      e.1,
      scan_skip f 256 k (from - k) from (omega (arith, s.0)) (omega (arith, s.1)) s.3
          ∙ scan_first f 256 from (end - from - 1) end (omega (arith, e.0)) e.1 (λ j ge lt z. omega (arith, e.3 j ge lt)) e.2,
    )

-- a set has no more runs than there are places
pub few_runs : (f : ℕ → ℕ) (rs ts : List Run) → rs ++ ts ≡ runs_of 256 f → length rs + length ts ≤ 128
few_runs f rs ts e = omega (arith, length-append rs ts, ap length e, scan_few f 256 128 (omega arith))
