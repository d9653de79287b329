-- Whether a stage fits what a junction holds, and if not, what is in its way. Assumes nothing.
use Rattle.std.specs.Prelude.{◌≡◌, ℕ, ◌+◌, ◌<◌, true, cond, ◌&&◌, ◌==◌, ◌≢◌, Some, None, Ok, Err, find, Option, Result}
use Rattle.std.specs.List.{range_with_len}
use Rattle.count.specs.Counts.{count_answers}
use Rattle.count.specs.Top.{top}
use Rattle.frames.specs.FrameSets.{frame}
use Rattle.frames.specs.Sizes.{frame_count}
use Rattle.windows.specs.WindowSets.{window}
use Rattle.windows.specs.Sizes.{second_count}
use Rattle.kinds.specs.Engine.{Engine, engine_answers}
use Rattle.junction.specs.declared.conflict.Conflict.{Conflict}
use Rattle.junction.specs.declared.conflict.Conflict.TheVariants.{TooManyVehicles, FrameHeld, SecondHeld}

-- the first number below n that is in both
unfoldable pub first_shared : ℕ → (ℕ → ℕ) → (ℕ → ℕ) → Option ℕ
first_shared n f g = find (λ k. f k == 1 && g k == 1) (range_with_len 0 n)

-- a number that is in the way, or what comes next
abbrev pub clear_of : (ℕ → Conflict) → Option ℕ → Result (Unit {0}) Conflict → Result (Unit {0}) Conflict
clear_of way None next = next
clear_of way (Some k) next = Err (way k)

-- vehicles are looked at first, then frames, then seconds
abbrev pub verdict : Engine → Engine → Result (Unit {0}) Conflict
verdict held a =
    cond (count_answers.fits held.first a.first)
    (clear_of FrameHeld (first_shared frame_count (frame held.second.first) (frame a.second.first))
    (clear_of SecondHeld (first_shared second_count (window held.second.second) (window a.second.second))
    (Ok tt)))
    (Err TooManyVehicles)

-- what the junction holds then
abbrev pub held_after : Engine → Engine → Engine
held_after held a = cond (engine_answers.fits held a) (engine_answers.join held a) held

-- what is said to be in the way of a stage is really there
abbrev pub InTheWay : Engine → Engine → Conflict → Type 0
InTheWay held a TooManyVehicles = top < held.first.value + a.first.value
InTheWay held a (FrameHeld k) = (k < frame_count) × (frame held.second.first k ≡ 1) × (frame a.second.first k ≡ 1)
InTheWay held a (SecondHeld k) = (k < second_count) × (window held.second.second k ≡ 1) × (window a.second.second k ≡ 1)

-- what a verdict says of what is held and of the stage: it is added exactly when the two fit
abbrev pub Right : Engine → Engine → Result (Unit {0}) Conflict → Type 0
Right held a (Ok _) = engine_answers.fits held a ≡ true
Right held a (Err c) = (engine_answers.fits held a ≢ true) × InTheWay held a c

-- a stage is added exactly when it fits, and what is said to be in its way is there
abbrev pub VerdictsAreRight : Type 0
VerdictsAreRight = (held a : Engine) → Right held a (verdict held a)
