use Rattle.std.proofs.Common.{◌≡◌, ℕ, ◌*◌, ◌/◌, ◌%◌, ◌<◌, ◌≤◌, ltb, ◌⊎◌, sym, ap, inl, inr, ⊎_elim, subst, arith}
use Rattle.std.specs.Bool.{then_some}
use Rattle.std.proofs.lemmas.Bool.{cases_lt, lt-ltb, le-ltb}
use Rattle.sets.specs.Ends.{place}
use Rattle.sets.specs.Runs.{blank}
use Rattle.sets.specs.declared.run.Run.{Run}
use Rattle.windows.specs.Sizes.{second_count, window_places}
use Rattle.sets.proofs.Covering.{end_is, end_past, end-top}
use Rattle.windows.specs.Walking.{GivesEnd}
use Rattle.windows.specs.WindowFacts.{tidy_of}
use Rattle.windows.specs.declared.windows.Windows.{Windows}
use Rattle.windows.proofs.windows.Windows.end.Goals as goal
use Rattle.windows.proofs.windows.Windows.end.Goals.{then-i-eq0, else-i-eq0}

-- an end of the run in a place, if a run is there
of_place : (x : Windows) (i : ℕ) (r : Run) (v : ℕ) → i < window_places * 2 → r ≡ place x.runs (i / 2)
    → ((i % 2 ≡ 0) × (v ≡ r.from)) ⊎ ((i % 2 ≡ 1) × (v ≡ r.to)) → GivesEnd x i (then_some (ltb 0 r.to) v)
of_place x i r v few here which =
    let from = ap (λ q. q.from) here in
    let to = ap (λ q. q.to) here in
    let u = end_is second_count x.runs i in
    let neat = (tidy_of x).1 (i / 2) in
    ⊎_elim
    (λ (used : 0 < r.to). rw (lt-ltb 0 r.to used) (omega arith, omega arith, few))
    (λ (unused : r.to ≤ 0). rw (le-ltb 0 r.to unused) (omega arith))
    (cases_lt 0 r.to)

pub returns-in_err-run : goal.returns-in_err-run
returns-in_err-run c =
    let x = c.args.self.now in
    let i = c.args.i in
    let t = tidy_of x in
    let h = c.in_err-run.ensures.lookup in
    let past : window_places * 2 ≤ i = omega (arith, t.0, h.3) in
    subst (GivesEnd x i) (sym c.from_residual.ensures)
    (omega (arith, end_past second_count window_places x.runs t i past, end-top second_count window_places x.runs t i))

pub returns : goal.returns
returns c =
    let x = c.args.self.now in
    let i = c.args.i in
    let h = c.in_ok-run.ensures.lookup in
    subst (GivesEnd x i) (sym c.then_some.ensures)
    (of_place x i c.in_ok-run.field-0.now c.if-i-eq0.end (omega (arith, (tidy_of x).0, h.3.0)) (h.3.1 blank)
    (elim c.if-i-eq0.branch [
      | then-i-eq0 w ↦ inl (w.if-i-eq0.true, w.end-is)
      | else-i-eq0 w ↦ inr (omega (arith, w.if-i-eq0.false), w.end-is)
    ]))
