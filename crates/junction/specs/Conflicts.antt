-- What is in the way of a stage, in words. Assumes nothing.
use Rattle.std.specs.Prelude.{ℕ, List, ◌++◌, codes, decimal}
use Rattle.junction.specs.declared.conflict.Conflict.{Conflict}
use Rattle.junction.specs.declared.conflict.Conflict.TheVariants.{TooManyVehicles, FrameHeld, SecondHeld}

abbrev pub conflict_text : Conflict → List ℕ
conflict_text TooManyVehicles = codes "too many vehicles"
conflict_text (FrameHeld k) = codes "frame " ++ (decimal k ++ codes " is already held")
conflict_text (SecondHeld k) = codes "second " ++ (decimal k ++ codes " is already held")
