use Rattle.std.proofs.Common.{arith}
use Rattle.std.proofs.lemmas.Bool.{eqb-true, eq-eqb}
use Rattle.sets.proofs.Answering.{vacant-is}
use Rattle.windows.specs.WindowFacts.{window_sets, blank_none, none_blank}
use Rattle.windows.proofs.windows.algebra.WindowsKind.is_empty.Goals as goal

pub returns : goal.returns
returns c = let x = c.args.self.now in vacant-is window_sets x _ (λ e. blank_none x (omega (arith, eqb-true _ _ e)), λ e. eq-eqb _ _ (omega (arith, none_blank x e)))
