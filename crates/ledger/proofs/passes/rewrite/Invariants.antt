use Rattle.std.proofs.Common.{◌≤◌, Bool}
use Rattle.ledger.specs.Passes.{Tells}
use Rattle.ledger.proofs.RowPasses.{Tally}
use Rattle.ledger.proofs.passes.rewrite.Given as goal

abbrev pub invariant-loop-row : goal.invariant-loop-row
invariant-loop-row g l = record {
  few : l.count ≤ l.row-index;
  tally : (t : g.row.R.Denot → Bool) (f : g.row.R.Denot → g.row.R.Denot) → Tells g.T.Fn l.test t → Tells g.C.Fn l.change f → Tally t f l.initial.rows l.row-index l.count l.rows;
}
