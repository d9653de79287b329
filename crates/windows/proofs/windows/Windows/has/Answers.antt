use Rattle.std.proofs.Common.{◌≡◌, cond, ltb, ap, ◌∙◌, sym, rules, tests, arith}
use Rattle.std.proofs.lemmas.Bool.Decides.{nat_tests}
use Rattle.std.proofs.lemmas.Iterator.{YieldsList-from_slice}
use Rattle.std.proofs.lemmas.Iterator.Consumers.{YieldsList-at}
use Rattle.std.proofs.lemmas.Iterator.Search.{any_from_yields_List, YieldsList-from_take_while}
use Rattle.sets.proofs.Covering.{covered_past}
use Rattle.windows.specs.Sizes.{second_count, window_places}
use Rattle.windows.specs.WindowFacts.{tidy_of}
use Rattle.windows.specs.WindowSets.{window}
use Rattle.windows.proofs.WindowRuns.{begins_by, covered_begun}
use Rattle.windows.proofs.windows.Windows.has.Goals as goal

pub returns-then-second-lt-SECONDS : goal.returns-then-second-lt-SECONDS
returns-then-second-lt-SECONDS c =
    let x = c.args.self.now in
    let s = c.args.second in
    let t = c.take_while.ensures in
    let found = any_from_yields_List (λ r. ltb s r.to) _ _ c.any.result c.any.ensures.ran
    (YieldsList-from_take_while _ (begins_by s) (YieldsList-at t.source (YieldsList-from_slice x.runs cc)) t.closure t.done (λ y b q k. search (rules, tests))) (λ y b q k. search (rules, tests)) in
    let is : window x s ≡ cond c.any.result 1 0 = covered_begun second_count x.runs s (tidy_of x).1 (omega arith) ∙ ap (λ b. cond b 1 0) (sym found) in
    search (rules, tests)

pub returns-else-second-lt-SECONDS : goal.returns-else-second-lt-SECONDS
returns-else-second-lt-SECONDS c =
    let x = c.args.self.now in
    let past = covered_past second_count window_places x.runs (tidy_of x) c.args.second (omega arith) in
    grind (arith, nat_tests)
