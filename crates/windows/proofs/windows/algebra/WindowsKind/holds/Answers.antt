use Rattle.std.proofs.Common.{◌∙◌, rules, tests}
use Rattle.sets.proofs.Answering.{covers_from}
use Rattle.windows.specs.WindowFacts.{window_sets}
use Rattle.windows.proofs.Turns.{any_reaches, in_one_alone, in_one_alone-Meets, one_ends}
use Rattle.windows.proofs.windows.algebra.WindowsKind.holds.Goals as goal

pub returns : goal.returns
returns c =
    covers_from window_sets c.args.self.now c.args.part.now _
    (any_reaches _ _ _ _ 0 in_one_alone in_one_alone-Meets (λ t b q k. search (rules, tests)) (λ t. t.one_left) (one_ends 0) (λ t b q k. search (rules, tests)) _ _ _ _ _
    (c.take_while.ensures.source ∙ c.walk.ensures) c.take_while.ensures.done c.take_while.ensures.closure c.any.ensures.ran)
