use Rattle.std.proofs.Common.{◌≡◌, drop}
use Rattle.tables.specs.Rows.{lowest, grant_lost}
use Rattle.ledger.proofs.checks.lost_grant.Given as goal

abbrev pub invariant-loop-grant : goal.invariant-loop-grant
invariant-loop-grant g l = let test = grant_lost g.K.Kind.answers l.banks in lowest test 0 l.grants ≡ lowest test l.grant-index (drop l.grant-index l.grants)
