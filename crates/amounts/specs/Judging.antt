-- The amount that is written, or why there is none. Assumes nothing.
use Rattle.std.specs.Prelude.{Some, None, Ok, Err, Option, Result}
use Rattle.kind.specs.declared.refusal.AmountRefusal.{AmountRefusal}
use Rattle.kinds.specs.Bundles.{both}
use Rattle.kinds.specs.Engine.{Engine}
use Rattle.count.specs.Counts.{make_count}
use Rattle.frames.specs.FrameSets.{make_frames, frames_answers}
use Rattle.frames.specs.declared.frames.Frames.{Frames}
use Rattle.windows.specs.WindowSets.{make_windows, windows_answers}
use Rattle.windows.specs.declared.windows.Windows.{Windows}
use Rattle.notation.specs.declared.spans.Span.{Span}
use Rattle.amounts.specs.declared.written.Written.{Written}

-- k of the value, or the refusal
abbrev pub and_then : {X Y E : Type 0} → Result X E → (X → Result Y E) → Result Y E
and_then (Ok x) k = k x
and_then (Err e) k = Err e

-- no frame where no run is written
abbrev pub judged_frames : Option Span → Result Frames AmountRefusal
judged_frames None = Ok frames_answers.empty
judged_frames (Some s) = make_frames s.from s.to

-- no second where no run is written
abbrev pub judged_windows : Option Span → Result Windows AmountRefusal
judged_windows None = Ok windows_answers.empty
judged_windows (Some s) = make_windows s.from s.to

-- the count is judged first, then the frames, then the windows
abbrev pub judged : Written → Result Engine AmountRefusal
judged w =
    and_then (make_count w.count) (λ count.
    and_then (judged_frames w.frames) (λ frames. and_then (judged_windows w.windows) (λ windows. Ok (both count (both frames windows)))))
