-- The engine's bundle keeps the laws of a kind: what counts owe to that, so far.
use Rattle.std.proofs.Common.{sym, ◌∙◌}
use Rattle.count.specs.Counts.{Sums}
use Rattle.count.specs.Same.{same}
use Rattle.kind.specs.Algebra.{Functional}

pub count_functional : Functional Sums
count_functional x y z z' p q = same z z' (sym p ∙ q)
