use Rattle.std.proofs.Common.{Some, ap, ◌∙◌}
use Rattle.std.proofs.lemmas.List.{get_or_default}
use Rattle.std.specs.Option.{option_map}
use Rattle.tables.specs.declared.rows.Grant.{Grant}
use Rattle.tables.specs.Tables.{grant_at}
use Rattle.ledger.proofs.Scans.{lowest_found, lowest_more, lowest-end}
use Rattle.ledger.proofs.Whole.{stray}
use Rattle.ledger.proofs.checks.lost_grant.Goals as goal

pub returns-then-is_stray : goal.returns-then-is_stray
returns-then-is_stray g c =
    let q = g.K.Kind.answers in
    ap (λ (x : Grant g.row.K.Denot). Some x.bank) (c.grant-item.is ∙ get_or_default _ _ _ _ c.loop-grant-test.true)
    ∙ ap (option_map (λ r. (grant_at q.empty c.args.grants.now r).bank)) (lowest_found _ _ _ c.loop-grant.invariant c.grant-item.result c.loop-grant-test.true
    (stray q c.args.banks.now c.requires c.args.grants.now c.loop-grant.grant-index _ _ c.grant-item.is c.if-is_stray.ensures))

pub loop-grant-preserved : goal.loop-grant-preserved
loop-grant-preserved g c =
    lowest_more _ _ _ c.loop-grant.invariant c.grant-item.result c.loop-grant-test.true
    (stray g.K.Kind.answers c.args.banks.now c.requires c.args.grants.now c.loop-grant.grant-index _ _ c.grant-item.is c.if-is_stray.ensures)

pub returns : goal.returns
returns g c = ap (option_map _) (lowest-end _ _ _ c.loop-grant.invariant c.loop-grant-test.false)
