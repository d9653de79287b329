use Rattle.std.proofs.Common.{◌≡◌, Some, None, rules, arith}
use Rattle.std.proofs.lemmas.Iterator.{first_from_Range}
use Rattle.frames.specs.FrameSets.{frame}
use Rattle.frames.specs.FrameFacts.{one}
use Rattle.frames.proofs.FirstRuns.{IsFirst, no_run, first_run}
use Rattle.frames.proofs.frames.Frames.run_from.Goals as goal

pub returns-in_err-from : goal.returns-in_err-from
returns-in_err-from c =
    let x = c.args.self.now in
    let none : IsFirst (frame x) 1 0 c.args.at None =
    first_from_Range _ _ _ None (λ k. frame x k ≡ 1) (λ k. frame x k ≡ 0) c.in_err-from.ensures.ran
    (λ k q called. search rules)
    (λ k q called. (search rules, grind (arith, one x k))) in
    rw c.from_residual.ensures (no_run (frame x) c.args.at c.requires none)

pub returns : goal.returns
returns c =
    let x = c.args.self.now in
    let from = c.in_ok-from.from in
    let to = c.find-2.result in
    let starts : IsFirst (frame x) 1 0 c.args.at (Some from) =
    first_from_Range _ _ _ (Some from) (λ k. frame x k ≡ 1) (λ k. frame x k ≡ 0) c.in_ok-from.ensures.ran
    (λ k q called. search rules)
    (λ k q called. (search rules, grind (arith, one x k))) in
    let ends : IsFirst (frame x) 0 1 from to =
    first_from_Range _ _ _ to (λ k. frame x k ≡ 0) (λ k. frame x k ≡ 1) c.find-2.ensures.ran
    (λ k q called. grind (arith, one x k))
    (λ k q called. (search rules, grind (arith, one x k))) in
    rw c.unwrap_or-to.ensures (first_run (frame x) c.args.at from to starts ends)
