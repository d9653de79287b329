use Rattle.tables.specs.Tables.{under}
use Rattle.tables.specs.Rows.{bank_lost}
use Rattle.ledger.proofs.Marks.{Survey}
use Rattle.ledger.proofs.branches.marks_under.Given as goal

abbrev pub invariant-loop-row : goal.invariant-loop-row
invariant-loop-row g l = Survey (bank_lost g.K.Kind.answers l.banks) (under g.K.Kind.answers.empty l.banks l.bank) l.banks l.row l.marks
