use Rattle.std.proofs.Common.{◌≡◌, take, ap, ◌∙◌, rules, tests, arith}
use Rattle.std.proofs.lemmas.Iterator.{YieldsList-from_slice}
use Rattle.std.proofs.lemmas.Iterator.Consumers.{count_from_yields_List, YieldsList-at}
use Rattle.std.proofs.lemmas.Iterator.Search.{YieldsList-from_take_while}
use Rattle.std.proofs.lemmas.List.Folds.{length-prefix_len}
use Rattle.std.specs.List.{prefix_len}
use Rattle.sets.proofs.Used.{is_used}
use Rattle.windows.proofs.WindowRuns.{used_of}
use Rattle.windows.proofs.windows.Windows.runs.Goals as goal

pub returns : goal.returns
returns c =
    let x = c.args.self.now in
    let t = c.take_while.ensures in
    let counted : c.count-used.result ≡ prefix_len is_used x.runs = count_from_yields_List c.take_while.result c.count-used.result c.count-used.ensures.ran
    (YieldsList-from_take_while _ is_used (YieldsList-at t.source (YieldsList-from_slice x.runs cc)) t.closure t.done (λ y b q k. search (rules, tests))) ∙ length-prefix_len is_used x.runs in
    ap (λ u. take u x.runs) (omega (arith, counted)) ∙ used_of x
