use Rattle.junction.proofs.Right.{right}
use Rattle.junction.proofs.laws.verdicts_are_right.Goals as goal

pub returns : goal.returns
returns c = right
