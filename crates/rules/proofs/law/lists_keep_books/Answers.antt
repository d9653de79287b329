use Rattle.rules.proofs.Theorem.{books}
use Rattle.rules.proofs.law.lists_keep_books.Goals as goal

pub returns : goal.returns
returns g c =
    let laws = g.met.K.Kind in
    books (record {
      functional = laws.functional;
      commutative = laws.commutative;
      associative = laws.associative;
      cancellative = laws.cancellative;
      neutral = laws.neutral;
      gives_join = laws.gives_join;
      tells_part = laws.tells_part;
      gives_remainder = laws.gives_remainder;
    })
