use Rattle.std.proofs.Common.{◌-◌, length}
use Rattle.lists.specs.Listed.{listed}
use Rattle.ledger.proofs.Climbs.{Climb}
use Rattle.ledger.proofs.chains.chain_of.Given as goal

abbrev pub invariant-climb : goal.invariant-climb
invariant-climb g l = Climb g.K.Kind.answers.empty l.banks l.bank l.row (listed l.rows)

abbrev pub decreases-climb : goal.decreases-climb
decreases-climb g l = 16 - length (listed l.rows)
