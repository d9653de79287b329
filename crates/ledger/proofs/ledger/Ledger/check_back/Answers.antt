use Rattle.std.proofs.Common.{◌≡◌, Some, None, subst, ◌∙◌, rules}
use Rattle.std.proofs.lemmas.List.{get_or_default}
use Rattle.tables.specs.declared.rows.Grant.{Grant}
use Rattle.tables.specs.Tables.{chain, grant_at}
use Rattle.tables.specs.Rows.{nearest, short_of, row_short}
use Rattle.ledger.specs.Posts.{lent}
use Rattle.ledger.proofs.Climbs.{rows_within}
use Rattle.ledger.proofs.Scans.{found_on}
use Rattle.ledger.proofs.ledger.Ledger.check_back.Goals as goal

pub nearest-requires-clause-within : goal.nearest-requires-clause-within
nearest-requires-clause-within g c = rows_within _ _ _ _ (c.as_slice.ensures ∙ c.in-Some.ensures.0)

pub returns-in-Some-nearest-clause-due : goal.returns-in-Some-nearest-clause-due
returns-in-Some-nearest-clause-due g c =
    let q = g.K.Kind.answers in
    let s = lent c.args.self.now in
    let grant : c.index-grants-row.result ≡ grant_at q.empty s.grants c.args.row = c.index-grants-row.is ∙ get_or_default _ _ _ _ c.if-row-self.false in
    let read : nearest (short_of q s.banks c.index-grants-row.result.amount) (chain q.empty s.banks c.index-grants-row.result.bank) ≡ Some c.in-Some-nearest.short =
    found_on _ (c.nearest.ensures (row_short q c.index-grants-row.result.amount) (λ x y says. search rules)) (c.as_slice.ensures ∙ c.in-Some.ensures.0) c.in-Some-nearest.is in
    let found : nearest (short_of q s.banks (grant_at q.empty s.grants c.args.row).amount) (chain q.empty s.banks (grant_at q.empty s.grants c.args.row).bank) ≡ Some c.in-Some-nearest.short =
    subst (λ (x : Grant g.row.K.Denot). nearest (short_of q s.banks x.amount) (chain q.empty s.banks x.bank) ≡ Some c.in-Some-nearest.short) grant read in
    search rules

pub returns-in-None-clause-due : goal.returns-in-None-clause-due
returns-in-None-clause-due g c =
    let q = g.K.Kind.answers in
    let s = lent c.args.self.now in
    let grant : c.index-grants-row.result ≡ grant_at q.empty s.grants c.args.row = c.index-grants-row.is ∙ get_or_default _ _ _ _ c.if-row-self.false in
    let read : nearest (short_of q s.banks c.index-grants-row.result.amount) (chain q.empty s.banks c.index-grants-row.result.bank) ≡ None =
    found_on _ (c.nearest.ensures (row_short q c.index-grants-row.result.amount) (λ x y says. search rules)) (c.as_slice.ensures ∙ c.in-Some.ensures.0) c.in-None.is in
    let found : nearest (short_of q s.banks (grant_at q.empty s.grants c.args.row).amount) (chain q.empty s.banks (grant_at q.empty s.grants c.args.row).bank) ≡ None =
    subst (λ (x : Grant g.row.K.Denot). nearest (short_of q s.banks x.amount) (chain q.empty s.banks x.bank) ≡ None) grant read in
    search rules
