use Rattle.std.proofs.Common.{◌∙◌}
use Rattle.ledger.proofs.RowPasses.{passed_write, passed_all}
use Rattle.ledger.proofs.handing.hand_up_banks.Goals as goal

pub loop-row-preserved : goal.loop-row-preserved
loop-row-preserved g c = passed_write _ _ _ _ _ c.index-banks-row.result c.loop-row-test.true c.loop-row.invariant c.handed_up.ensures

pub returns : goal.returns
returns g c = c.loop-row.invariant ∙ passed_all _ 0 _ _ c.loop-row-test.false
