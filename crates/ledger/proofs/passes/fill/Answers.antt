use Rattle.std.proofs.Common.{refl, ◌∙◌}
use Rattle.ledger.proofs.RowPasses.{passed_write, passed_all, each_same}
use Rattle.ledger.proofs.passes.fill.Goals as goal

pub loop-place-preserved : goal.loop-place-preserved
loop-place-preserved g c = passed_write _ _ _ _ c.args.row c.args.row c.loop-place-test.true c.loop-place.invariant refl

pub returns : goal.returns
returns g c = c.loop-place.invariant ∙ passed_all _ 0 _ _ c.loop-place-test.false ∙ each_same _ 0 _
