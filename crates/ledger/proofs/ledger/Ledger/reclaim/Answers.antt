use Rattle.std.proofs.Common.{ap, ◌∙◌, arith, rules}
use Rattle.std.proofs.lemmas.List.{get_or_default}
use Rattle.tables.specs.declared.rows.Bank.{Bank}
use Rattle.tables.specs.Rows.{above}
use Rattle.ledger.specs.Posts.{lent}
use Rattle.ledger.proofs.Climbs.{above_within}
use Rattle.ledger.proofs.Outcomes.{reclaimed}
use Rattle.ledger.proofs.Once.{above_once}
use Rattle.ledger.proofs.RowPasses.{few_changed}
use Rattle.ledger.proofs.ledger.Ledger.reclaim.Goals as goal

pub change_uses-requires-clause-within : goal.change_uses-requires-clause-within
change_uses-requires-clause-within g c = above_within _ _ _ _ (c.above.ensures ∙ ap above c.in_ok-branch.ensures.rows)

pub change_uses-requires-clause-once : goal.change_uses-requires-clause-once
change_uses-requires-clause-once g c = above_once g.K.Kind.answers.empty c.args.self.now.banks.now _ _ (c.above.ensures ∙ ap above c.in_ok-branch.ensures.rows)

pub overflow_cast-result : goal.overflow_cast-result
overflow_cast-result g c = omega (arith, few_changed c.free_grants-count.ensures, c.in_ok-branch.ensures.within.1)

pub returns-clause-meets : goal.returns-clause-meets
returns-clause-meets g c =
    let q = g.K.Kind.answers in
    let used = ap (λ (b : Bank g.row.K.Denot). b.used) (c.index-self-bank.is ∙ get_or_default _ _ _ _ c.in_ok-branch.ensures.within.0) in
    reclaimed q (lent c.args.self.now) _ _ _ _ _ _ _ _ c.in_ok-branch.ensures.due used c.in_ok-branch.ensures.marks (c.above.ensures ∙ ap above c.in_ok-branch.ensures.rows)
    (c.change_uses.ensures (λ u. q.remainder u c.index-self-bank.result.used) (λ x y says. search rules)) c.free_banks.ensures c.free_grants-count.ensures
