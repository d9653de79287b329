use Rattle.std.proofs.Common.{◌≡◌, take}
use Rattle.tables.specs.Rows.{change_uses}
use Rattle.ledger.specs.Passes.{Tells}
use Rattle.ledger.proofs.uses.change_uses.Given as goal

abbrev pub invariant-loop-row : goal.invariant-loop-row
invariant-loop-row g l = (f : g.row.K.Denot → g.row.K.Denot) → Tells g.C.Fn l.change f → l.banks ≡ change_uses g.K.Kind.answers f (take l.row-index l.rows) l.initial.banks
