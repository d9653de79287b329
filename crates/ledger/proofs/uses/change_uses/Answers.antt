use Rattle.ledger.proofs.ChangedUses.{uses_start, uses_more, uses_end}
use Rattle.ledger.proofs.uses.change_uses.Goals as goal

pub loop-row-init : goal.loop-row-init
loop-row-init g c = λ f tells. uses_start g.K.Kind.answers f _

pub loop-row-preserved : goal.loop-row-preserved
loop-row-preserved g c = λ f tells.
    uses_more g.K.Kind.answers f _ _ _ _ (c.loop-row.invariant f tells) c.requires.within c.loop-row-test.true c.requires.once _ _ _ _ _
    (tells _ _ c.change-used.ensures)

pub returns : goal.returns
returns g c = λ f tells. uses_end g.K.Kind.answers f _ _ _ _ (c.loop-row.invariant f tells) c.loop-row-test.false
