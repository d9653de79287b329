use Rattle.std.proofs.Common.{rules}
use Rattle.ledger.proofs.handing.hand_up_grants.Goals as goal

pub returns : goal.returns
returns g c = c.rewrite.ensures _ _ (λ x y says. search rules) (λ x y says. search rules)
