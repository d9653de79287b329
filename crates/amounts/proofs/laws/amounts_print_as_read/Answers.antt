use Rattle.std.proofs.Common.{◌≡◌, ℕ, zero, suc, Bool, true, false, cond, ltb, leb, [], ◌∷◌, Some, None, Ok, Err, Option, Result, sym, refl, ap, ◌∙◌}
use Rattle.std.proofs.lemmas.List.{append-nil}
use Rattle.std.proofs.lemmas.Bool.{and_parts, leb-true, ltb-true}
use Rattle.kinds.specs.Bundles.{both}
use Rattle.count.specs.Counts.{make_count, count_of}
use Rattle.count.specs.Top.{top}
use Rattle.count.specs.declared.count.Count.{Count}
use Rattle.count.specs.Same.{within_top_in}
use Rattle.frames.specs.FrameSets.{frame_runs, frames_of}
use Rattle.frames.specs.declared.frames.Frames.{Frames}
use Rattle.frames.specs.FrameFacts as frame-facts
use Rattle.sets.specs.Runs.{run, within, is_run, runs_from, runs_of}
use Rattle.sets.proofs.Firsts.{one_run}
use Rattle.windows.specs.WindowSets.{window_runs, windows_of}
use Rattle.windows.specs.declared.windows.Windows.{Windows}
use Rattle.windows.specs.WindowFacts as window-facts
use Rattle.notation.specs.Texts.{runs_text, part_text}
use Rattle.notation.specs.declared.spans.Span.{Span}
use Rattle.amounts.specs.Judging.{and_then, judged_frames, judged_windows}
use Rattle.amounts.specs.Laws.{AmountsPrintAsRead}
use Rattle.amounts.specs.Showing.{amount_text}
use Rattle.amounts.proofs.laws.amounts_print_as_read.Goals as goal

-- what is made of a value that a test lets pass
made_if : {X E : Type 0} (b : Bool) (x y : X) (e : E) → cond b (Ok x) (Err e) ≡ Ok y → (b ≡ true) × (x ≡ y)
made_if true x y e h = (refl, cc)
made_if false x y e h = absurd (cc)

count_text : (n : ℕ) (c : Count) → make_count n ≡ Ok c → c.value ≡ n
count_text n c h =
    let p = made_if (leb n top) (count_of n) c _ h in
    ap (λ x. x.value) (sym p.1) ∙ within_top_in n (leb-true n top p.0)

-- one run from..to of numbers below n
run_of_test : (n from to : ℕ) → is_run n from to ≡ true → runs_of n (within from to) ≡ run from to ∷ []
run_of_test n from to e =
    let p = and_parts (ltb from to) (leb to n) e in
    one_run n from to (ltb-true from to p.0) (leb-true to n p.1)

no_runs : (d k : ℕ) → runs_from (λ _. 0) d k ≡ []
unfolding runs_from
no_runs zero k = refl
no_runs (suc d) k = no_runs d (suc k)

frames_text : (o : Option Span) (x : Frames) → judged_frames o ≡ Ok x → runs_text (frame_runs x) ≡ part_text o
frames_text None x h =
    let is : frames_of (λ _. 0) ≡ x = cc in
    ap (λ y. runs_text (frame_runs y)) (sym is) ∙ ap runs_text (frame-facts.runs_made (λ _. 0) ∙ no_runs 256 0)
frames_text (Some s) x h =
    let p = made_if (is_run 256 s.from s.to) (frames_of (within s.from s.to)) x _ h in
    ap (λ y. runs_text (frame_runs y)) (sym p.1)
    ∙ ap runs_text (frame-facts.runs_made (within s.from s.to) ∙ run_of_test 256 s.from s.to p.0) ∙ append-nil _

windows_text : (o : Option Span) (x : Windows) → judged_windows o ≡ Ok x → runs_text (window_runs x) ≡ part_text o
windows_text None x h =
    let is : windows_of (λ _. 0) ≡ x = cc in
    ap (λ y. runs_text (window_runs y)) (sym is) ∙ ap runs_text (window-facts.runs_made (λ _. 0) ∙ no_runs 128 0)
windows_text (Some s) x h =
    let p = made_if (is_run 128 s.from s.to) (windows_of (within s.from s.to)) x _ h in
    ap (λ y. runs_text (window_runs y)) (sym p.1)
    ∙ ap runs_text (window-facts.runs_made (within s.from s.to) ∙ run_of_test 128 s.from s.to p.0) ∙ append-nil _

-- what was judged well was judged well in each part
then_ok : {X Y E : Type 0} (r : Result X E) (k : X → Result Y E) (y : Y) → and_then r k ≡ Ok y → (x : X) × (r ≡ Ok x) × (k x ≡ Ok y)
then_ok (Ok x) k y h = (x, refl, h)
then_ok (Err e) k y h = absurd (cc)

print_as_read : AmountsPrintAsRead
print_as_read w a h =
    let c = then_ok (make_count w.count) _ a h in
    let f = then_ok (judged_frames w.frames) _ a c.2 in
    let g = then_ok (judged_windows w.windows) _ a f.2 in
    let is : both c.0 (both f.0 g.0) ≡ a = cc in
    let count = count_text w.count c.0 c.1 in
    let frames = frames_text w.frames f.0 f.1 in
    let windows = windows_text w.windows g.0 g.1 in
    ap amount_text (sym is) ∙ cc

pub returns : goal.returns
returns c = print_as_read
