use Rattle.std.proofs.Common.{◌≡◌}
use Rattle.ledger.proofs.RowPasses.{passed}
use Rattle.ledger.proofs.passes.fill.Given as goal

abbrev pub invariant-loop-place : goal.invariant-loop-place
invariant-loop-place g l = l.rows ≡ passed (λ _ _. l.row) 0 l.place-index l.initial.rows
