use Rattle.std.proofs.Common.{◌≡◌, ◌-◌, ◌≤◌, ◌++◌}
use Rattle.frames.specs.FrameSets.{frame, frame_runs}
use Rattle.lists.specs.Listed.{listed}
use Rattle.frames.specs.Sizes.{frame_count}
use Rattle.sets.specs.Runs.{runs_from}
use Rattle.frames.proofs.frames.Frames.runs.Given as goal

abbrev pub invariant-scan : goal.invariant-scan
invariant-scan l = record {
  within : l.at ≤ frame_count;
  so_far : listed l.list ++ runs_from (frame l.self) (frame_count - l.at) l.at ≡ frame_runs l.self;
}

abbrev pub decreases-scan : goal.decreases-scan
decreases-scan l = frame_count - l.at
