use Rattle.std.proofs.Common.{◌≡◌}
use Rattle.tables.specs.Rows.{handed_bank}
use Rattle.ledger.proofs.RowPasses.{passed}
use Rattle.ledger.proofs.handing.hand_up_banks.Given as goal

abbrev pub invariant-loop-row : goal.invariant-loop-row
invariant-loop-row g l = l.banks ≡ passed (handed_bank g.K.Kind.answers l.from l.to) 0 l.row l.initial.banks
