use Rattle.std.proofs.Common.{◌≡◌}
use Rattle.ledger.specs.Posts.{marked}
use Rattle.tables.specs.Rows.{freed_bank}
use Rattle.ledger.proofs.RowPasses.{passed}
use Rattle.ledger.proofs.freeing.free_banks.Given as goal

abbrev pub invariant-loop-row : goal.invariant-loop-row
invariant-loop-row g l = l.banks ≡ passed (freed_bank g.K.Kind.answers (marked l.gone)) 0 l.row l.initial.banks
