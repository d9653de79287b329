use Rattle.std.proofs.Common.{◌∙◌}
use Rattle.ledger.proofs.Climbs.{rows_within}
use Rattle.ledger.proofs.Once.{rows_once}
use Rattle.ledger.proofs.ledger.Ledger.buy.Goals as goal

pub change_uses-requires-clause-within : goal.change_uses-requires-clause-within
change_uses-requires-clause-within g c = rows_within _ _ _ _ (c.as_slice.ensures ∙ c.in_ok-chain.ensures.rows)

pub change_uses-requires-clause-once : goal.change_uses-requires-clause-once
change_uses-requires-clause-once g c = rows_once g.K.Kind.answers.empty c.args.self.now.banks.now _ _ (c.as_slice.ensures ∙ c.in_ok-chain.ensures.rows)
