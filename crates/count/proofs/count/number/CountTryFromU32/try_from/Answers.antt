use Rattle.std.proofs.Common.{rules}
use Rattle.std.proofs.lemmas.Bool.{le-leb}
use Rattle.count.specs.Same.{same}
use Rattle.count.proofs.count.number.CountTryFromU32.try_from.Goals as goal

-- two counts of one number are one count, whatever shows that they are within the top
pub returns-then-value-le-TOP-clause-answer : goal.returns-then-value-le-TOP-clause-answer
returns-then-value-le-TOP-clause-answer c = search (rules, same, le-leb)
