use Rattle.std.proofs.Common.{◌≡◌, Some, None, ap, subst, ◌∙◌, rules}
use Rattle.std.proofs.lemmas.List.{get_or_default}
use Rattle.tables.specs.declared.rows.Bank.{Bank}
use Rattle.tables.specs.Tables.{chain, bank_at}
use Rattle.tables.specs.Rows.{above, nearest, short_of, row_short}
use Rattle.lists.specs.Listed.{listed}
use Rattle.ledger.specs.Posts.{lent}
use Rattle.ledger.proofs.Climbs.{climbed_rows, above_within}
use Rattle.ledger.proofs.Scans.{found_on}
use Rattle.ledger.proofs.ledger.Ledger.check_reclaim.Goals as goal

pub nearest-requires-clause-within : goal.nearest-requires-clause-within
nearest-requires-clause-within g c = above_within _ _ _ _ (c.above.ensures ∙ ap above (ap listed c.unwrap_or-chain.ensures ∙ climbed_rows _ _ c.new.ensures c.chain_of.ensures))

pub returns-in-Some-clause-due : goal.returns-in-Some-clause-due
returns-in-Some-clause-due g c =
    let q = g.K.Kind.answers in
    let s = lent c.args.self.now in
    let bank : c.index-banks-bank.result ≡ bank_at q.empty s.banks c.args.bank = c.index-banks-bank.is ∙ get_or_default _ _ _ _ c.in_ok-marks.ensures.within.0 in
    let rows = c.above.ensures ∙ ap above (ap listed c.unwrap_or-chain.ensures ∙ climbed_rows _ _ c.new.ensures c.chain_of.ensures) in
    let read : nearest (short_of q s.banks c.index-banks-bank.result.used) (above (chain q.empty s.banks c.args.bank)) ≡ Some c.in-Some.short =
    found_on _ (c.nearest.ensures (row_short q c.index-banks-bank.result.used) (λ x y says. search rules)) rows c.in-Some.is in
    let found : nearest (short_of q s.banks (bank_at q.empty s.banks c.args.bank).used) (above (chain q.empty s.banks c.args.bank)) ≡ Some c.in-Some.short =
    subst (λ (x : Bank g.row.K.Denot). nearest (short_of q s.banks x.used) (above (chain q.empty s.banks c.args.bank)) ≡ Some c.in-Some.short) bank read in
    search rules

pub returns-in-None-clause-due : goal.returns-in-None-clause-due
returns-in-None-clause-due g c =
    let q = g.K.Kind.answers in
    let s = lent c.args.self.now in
    let bank : c.index-banks-bank.result ≡ bank_at q.empty s.banks c.args.bank = c.index-banks-bank.is ∙ get_or_default _ _ _ _ c.in_ok-marks.ensures.within.0 in
    let rows = c.above.ensures ∙ ap above (ap listed c.unwrap_or-chain.ensures ∙ climbed_rows _ _ c.new.ensures c.chain_of.ensures) in
    let read : nearest (short_of q s.banks c.index-banks-bank.result.used) (above (chain q.empty s.banks c.args.bank)) ≡ None =
    found_on _ (c.nearest.ensures (row_short q c.index-banks-bank.result.used) (λ x y says. search rules)) rows c.in-None.is in
    let found : nearest (short_of q s.banks (bank_at q.empty s.banks c.args.bank).used) (above (chain q.empty s.banks c.args.bank)) ≡ None =
    subst (λ (x : Bank g.row.K.Denot). nearest (short_of q s.banks x.used) (above (chain q.empty s.banks c.args.bank)) ≡ None) bank read in
    search rules
