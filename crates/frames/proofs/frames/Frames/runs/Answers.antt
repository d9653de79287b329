use Rattle.std.proofs.Common.{◌≡◌, ◌-◌, ◌<◌, [], ◌∷◌, ◌++◌, length, sym, ap, ◌∙◌, append_assoc, arith}
use Rattle.sets.specs.Runs.{runs_from}
use Rattle.frames.specs.FrameSets.{frame}
use Rattle.frames.proofs.FirstRuns.{few_runs}
use Rattle.lists.specs.Listed.{listed}
use Rattle.lists.proofs.Pushes.{pushed}
use Rattle.frames.proofs.frames.Frames.runs.Goals as goal

pub scan-preserved : goal.scan-preserved
scan-preserved c =
    let f = frame c.args.self.now in
    let here = listed c.scan.list in
    let run = c.in-Some.run' in
    let first = c.in-Some.ensures in
    let room : length here < 128 = grind (arith, few_runs f here _ c.scan.invariant.so_far) in
    let more : listed c.push.new.self ≡ here ++ (run ∷ []) = pushed _ _ _ _ _ c.push.ensures room in
    record {
      within = first.1;
      so_far =
          ap (λ l. l ++ runs_from f (256 - run.to) run.to) more ∙ append_assoc here (run ∷ []) (runs_from f (256 - run.to) run.to)
          ∙ sym (ap (λ l. here ++ l) first.2) ∙ c.scan.invariant.so_far;
    }
