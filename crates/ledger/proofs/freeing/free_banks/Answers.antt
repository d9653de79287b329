use lib.Seq.{set-get_or}
use Rattle.std.proofs.Common.{sym, ◌∙◌}
use Rattle.std.proofs.lemmas.Bool.{cond-true, cond-false}
use Rattle.ledger.proofs.RowPasses.{passed_write, passed_keep, passed_all}
use Rattle.ledger.proofs.freeing.free_banks.Goals as goal
use Rattle.ledger.proofs.freeing.free_banks.Goals.{then-is_gone, else-is_gone}

pub loop-row-preserved : goal.loop-row-preserved
loop-row-preserved g c =
    elim c.if-is_gone.branch [
      | then-is_gone w ↦ w.banks-is ∙ passed_write _ _ _ _ _ _ c.loop-row-test.true c.loop-row.invariant (w.free.ensures ∙ sym (cond-true _ _ _ (sym w.if-is_gone.ensures)))
      | else-is_gone w ↦ w.banks-is ∙ set-get_or _ _ _ ∙ passed_keep _ _ _ _ _ c.loop-row-test.true c.loop-row.invariant (sym (cond-false _ _ _ (sym w.if-is_gone.ensures)))
    ]

pub returns : goal.returns
returns g c = c.loop-row.invariant ∙ passed_all _ 0 _ _ c.loop-row-test.false
