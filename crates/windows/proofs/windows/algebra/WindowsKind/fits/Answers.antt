use Rattle.std.proofs.Common.{◌≡◌, ℕ, ◌<◌, ◌≤◌, true, sym, ◌∙◌, arith, rules, tests}
use Rattle.sets.specs.Members.{vacant}
use Rattle.sets.proofs.Answering.{apart_from, is-apart}
use Rattle.sets.proofs.Unions.{all_leb}
use Rattle.windows.specs.Sizes.{second_count}
use Rattle.windows.specs.WindowFacts.{window_sets, one}
use Rattle.windows.specs.WindowSets.{window}
use Rattle.windows.specs.declared.windows.Windows.{Windows}
use Rattle.windows.proofs.Turns.{any_reaches, in_both, in_both-Meets, both_left, either_ends}
use Rattle.windows.proofs.windows.algebra.WindowsKind.fits.Goals as goal
use Rattle.windows.proofs.windows.algebra.WindowsKind.fits.Goals.{then-is_empty-via-then-is_empty, then-is_empty-via-else-is_empty+then-is_empty-2}

-- a set of no second has none
none_in : (x : Windows) → vacant second_count window x ≡ true → (k : ℕ) → k < second_count → window x k ≤ 0
none_in x e = (all_leb second_count (window x) (λ _. 0)).0 e

pub returns-then-is_empty : goal.returns-then-is_empty
returns-then-is_empty c =
    let x = c.args.self.now in
    let y = c.args.other.now in
    is-apart window_sets x y (elim c.then-is_empty.branch [
      | then-is_empty-via-then-is_empty w ↦ λ k h. omega (arith, none_in x (sym c.is_empty.ensures ∙ w.if-is_empty.true) k h, one y k)
      | then-is_empty-via-else-is_empty+then-is_empty-2 w ↦ λ k h. omega (arith, none_in y (sym w.is_empty-else-is_empty.ensures ∙ w.if-is_empty-2.true) k h, one x k)
    ])

pub returns : goal.returns
returns c =
    apart_from window_sets c.args.self.now c.args.other.now _
    (any_reaches _ _ _ _ 1 in_both in_both-Meets (λ t b q k. search (rules, tests)) both_left either_ends (λ t b q k. search (rules, tests)) _ _ _ _ _
    (c.take_while.ensures.source ∙ c.walk.ensures) c.take_while.ensures.done c.take_while.ensures.closure c.any.ensures.ran)
