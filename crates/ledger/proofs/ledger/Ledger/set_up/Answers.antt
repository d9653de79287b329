use Rattle.std.proofs.Common.{replicate, ap, ◌∙◌}
use Rattle.ledger.specs.Posts.{lent}
use Rattle.ledger.proofs.Outcomes.{set_up_lem}
use Rattle.rules.proofs.Theorem.{kept_by}
use Rattle.ledger.proofs.ledger.Ledger.set_up.Goals as goal

pub returns-clause-books : goal.returns-clause-books
returns-clause-books g c =
    let q = g.K.Kind.answers in
    let laws = g.met.K.Kind in
    let s = lent c.args.self.now in
    kept_by (record {
      functional = laws.functional;
      commutative = laws.commutative;
      associative = laws.associative;
      cancellative = laws.cancellative;
      neutral = laws.neutral;
      gives_join = laws.gives_join;
      tells_part = laws.tells_part;
      gives_remainder = laws.gives_remainder;
    }) s _ c.in_ok-check_set_up.ensures (set_up_lem q c.args.endowment s _ _ _ c.empty.ensures (c.fill.ensures ∙ ap (replicate _) c.free.ensures) (c.fill-2.ensures ∙ ap (replicate _) c.free-2.ensures))
