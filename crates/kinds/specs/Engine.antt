-- The engine's bundle: a count with a bundle of frames and windows. Assumes nothing.
use Rattle.kind.specs.Algebra.{Answers}
use Rattle.count.specs.Counts.{Sums, count_answers}
use Rattle.count.specs.declared.count.Count.{Count}
use Rattle.frames.specs.FrameSets.{frames_answers, Unites as FramesUnite}
use Rattle.frames.specs.declared.frames.Frames.{Frames}
use Rattle.windows.specs.WindowSets.{windows_answers, Unites as WindowsUnite}
use Rattle.windows.specs.declared.windows.Windows.{Windows}
use Rattle.kinds.specs.Bundles.{BothMake, bundle_answers}
use Rattle.kinds.specs.declared.bundle.Bundle.{Bundle}

-- its amounts
abbrev pub Engine : Type 0
Engine = Bundle Count (Bundle Frames Windows)

-- two of them make a third
abbrev pub EngineMakes : Engine → Engine → Engine → Type 0
EngineMakes = BothMake Sums (BothMake FramesUnite WindowsUnite)

-- what it answers
abbrev pub engine_answers : Answers Engine
engine_answers = bundle_answers count_answers (bundle_answers frames_answers windows_answers)
