-- What the laws of unions ask of frames.
use Rattle.std.specs.Prelude.{◌≡◌, ℕ, ◌<◌, ◌≤◌, min}
use mathlib.Core.HLevel.{is_prop→PathP}
use Rattle.std.proofs.Common.{arith}
use Rattle.sets.specs.Bytes.{Bytes}
use Rattle.sets.specs.Runs.{runs_of}
use Rattle.sets.proofs.Scans.{scan_same}
use Rattle.frames.specs.Sizes.{frame_count}
use Rattle.frames.specs.FrameSets.{frame, frames_of, frame_runs}
use Rattle.sets.proofs.Unions.{Sets}
use Rattle.frames.specs.declared.frames.Frames.{Frames}
use Rattle.sets.proofs.Bits.{bytes_prop, same_bytes, bit_of-le, bit_of-bytes_of}

pub same_data : (x y : Frames) → x.bytes ≡ y.bytes → x ≡ y
same_data x y e = λ i. record { bytes = e i; sound = is_prop→PathP (λ j. Bytes 32 (e j)) (λ j. bytes_prop 32 (e j)) x.sound y.sound i }

pub same : (x y : Frames) → ((k : ℕ) → k < 256 → frame x k ≡ frame y k) → x ≡ y
same x y e = same_data x y (same_bytes 32 x.bytes y.bytes x.sound y.sound e)

pub one : (x : Frames) (k : ℕ) → frame x k ≤ 1
one x k = bit_of-le x.bytes k

pub made : (f : ℕ → ℕ) (k : ℕ) → k < 256 → frame (frames_of f) k ≡ min (f k) 1
made f k h = bit_of-bytes_of 32 f k h

pub frame_sets : Sets 256 frame frames_of
frame_sets = record { one = one; same = same; made = made }

-- the runs of a set are those of the numbers that it is made of
pub runs_made : (f : ℕ → ℕ) → frame_runs (frames_of f) ≡ runs_of frame_count f
runs_made f = scan_same (frame (frames_of f)) f frame_count 0 (λ j ge lt. omega (arith, made f j (omega arith)))
