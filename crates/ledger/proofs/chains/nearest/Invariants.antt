use Rattle.std.proofs.Common.{◌≡◌, ℕ, Bool, drop}
use Rattle.tables.specs.declared.rows.Bank.{Bank}
use Rattle.tables.specs.Tables.{bank_at}
use Rattle.tables.specs.Rows.{nearest}
use Rattle.ledger.specs.Passes.{Tells}
use Rattle.ledger.proofs.chains.nearest.Given as goal

abbrev pub invariant-loop-row : goal.invariant-loop-row
invariant-loop-row g l = (t : Bank g.row.K.Denot → Bool) → Tells g.T.Fn l.test t
    → let passes = λ (b : ℕ). t (bank_at g.K.Kind.answers.empty l.banks b) in nearest passes l.rows ≡ nearest passes (drop l.row-index l.rows)
