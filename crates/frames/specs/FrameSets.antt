-- Frames as a set of numbers below `frame_count`.
use Rattle.std.specs.Prelude.{ℕ, cond, List, Ok, Err, Result}
use Rattle.kind.specs.Algebra.{Answers}
use Rattle.kind.specs.declared.refusal.AmountRefusal.{AmountRefusal}
use Rattle.kind.specs.declared.refusal.AmountRefusal.TheVariants.{BadRun}
use Rattle.sets.specs.Bytes.{bit_of, bytes_of}
use Rattle.sets.specs.Members.{DisjointUnion, set_answers}
use Rattle.sets.specs.Runs.{within, is_run, runs_of}
use Rattle.sets.specs.declared.run.Run.{Run}
use Rattle.sets.proofs.Bits.{bytes_of_sound}
use Rattle.frames.specs.Sizes.{frame_count, frame_bytes}
use Rattle.frames.specs.declared.frames.Frames.{Frames}

-- 1 if frame k is in the set, and 0 if not
abbrev pub frame : Frames → ℕ → ℕ
frame x k = bit_of x.bytes k

-- the frames at which f is not 0
abbrev pub frames_of : (ℕ → ℕ) → Frames
frames_of f = record { bytes = bytes_of frame_bytes f; sound = bytes_of_sound frame_bytes f }

-- the frames from..to, refused unless that is a run
abbrev pub make_frames : ℕ → ℕ → Result Frames AmountRefusal
make_frames from to = cond (is_run frame_count from to) (Ok (frames_of (within from to))) (Err BadRun)

-- the runs of the set, lowest first
abbrev pub frame_runs : Frames → List Run
frame_runs x = runs_of frame_count (frame x)

-- x and y make z if they share no frame and z is their union
abbrev pub Unites : Frames → Frames → Frames → Type 0
Unites = DisjointUnion frame_count frame

abbrev pub frames_answers : Answers Frames
frames_answers = set_answers frame_count frame frames_of
