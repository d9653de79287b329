use Rattle.std.proofs.Common.{◌≡◌, Decides, sym, ap, ◌∙◌, rules, tests}
use Rattle.std.proofs.lemmas.Iterator.{YieldsList-from_slice, YieldsList-from_zip}
use Rattle.std.proofs.lemmas.Iterator.Consumers.{YieldsList-at}
use Rattle.std.proofs.lemmas.Iterator.Search.{all_from_yields_List, YieldsList-from_take_while}
use Rattle.sets.proofs.Answering.{same_members}
use Rattle.windows.specs.Sizes.{second_count}
use Rattle.windows.specs.WindowFacts.{window_sets, tidy_of, same_data}
use Rattle.windows.proofs.WindowRuns.{either_used, same_run, same_while_used}
use Rattle.windows.proofs.windows.algebra.WindowsKind.same.Goals as goal

pub returns : goal.returns
returns c =
    let x = c.args.self.now in
    let y = c.args.other.now in
    let t = c.take_while.ensures in
    let found = all_from_yields_List same_run _ _ c.all.result c.all.ensures.ran
    (YieldsList-from_take_while _ either_used (YieldsList-at t.source (YieldsList-from_zip (YieldsList-from_slice x.runs cc) (YieldsList-from_slice y.runs cc))) t.closure t.done (λ z b q k. search (rules, tests))) (λ z b q k. search (rules, tests)) in
    let told = same_while_used second_count x.runs y.runs (tidy_of x).1 (tidy_of y).1 ((tidy_of x).0 ∙ sym (tidy_of y).0) in
    let same : Decides c.all.result (x ≡ y) = (λ e. same_data x y (told.0 (sym found ∙ e)), λ e. found ∙ told.1 (ap (λ z. z.runs) e)) in
    record { equal = same; by_members = same_members window_sets x y _ same }
