use Rattle.std.proofs.Common.{refl, inl, inr, arith}
use Rattle.sets.proofs.Writes.{put_end_lem}
use Rattle.windows.proofs.windows.walk.put_end.Goals as goal

pub returns-then-q-eq0 : goal.returns-then-q-eq0
returns-then-q-eq0 c = put_end_lem c.args.runs.now c.args.q _ c.args.at (omega arith) (inl (c.if-q-eq0.true, refl, refl))

pub returns-else-q-eq0 : goal.returns-else-q-eq0
returns-else-q-eq0 c = put_end_lem c.args.runs.now c.args.q _ c.args.at (omega arith) (inr (omega (arith, c.if-q-eq0.false), refl, refl))
