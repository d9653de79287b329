use Rattle.std.proofs.Common.{◌≡◌, Some, None, ◌∙◌, rules}
use Rattle.tables.specs.Tables.{chain}
use Rattle.tables.specs.Rows.{nearest, over, row_over}
use Rattle.ledger.proofs.Climbs.{rows_within}
use Rattle.ledger.proofs.Scans.{found_on}
use Rattle.ledger.proofs.ledger.Ledger.check_buy.Goals as goal

pub nearest-requires-clause-within : goal.nearest-requires-clause-within
nearest-requires-clause-within g c = rows_within _ _ _ _ (c.as_slice.ensures ∙ c.in-Some.ensures.0)

pub returns-in-Some-nearest-clause-due : goal.returns-in-Some-nearest-clause-due
returns-in-Some-nearest-clause-due g c =
    let q = g.K.Kind.answers in
    let banks = c.args.self.now.banks.now in
    let found : nearest (over q banks c.args.amount.now) (chain q.empty banks c.args.bank) ≡ Some c.in-Some-nearest.over =
    found_on _ (c.nearest.ensures (row_over q c.args.amount.now) (λ x y says. search rules)) (c.as_slice.ensures ∙ c.in-Some.ensures.0) c.in-Some-nearest.is in
    search rules

pub returns-in-None-clause-due : goal.returns-in-None-clause-due
returns-in-None-clause-due g c =
    let q = g.K.Kind.answers in
    let banks = c.args.self.now.banks.now in
    let found : nearest (over q banks c.args.amount.now) (chain q.empty banks c.args.bank) ≡ None =
    found_on _ (c.nearest.ensures (row_over q c.args.amount.now) (λ x y says. search rules)) (c.as_slice.ensures ∙ c.in-Some.ensures.0) c.in-None.is in
    search rules
