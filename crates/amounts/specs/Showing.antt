-- The text of an amount. Assumes nothing.
use Rattle.std.specs.Prelude.{ℕ, List, ◌++◌, codes, decimal}
use Rattle.frames.specs.FrameSets.{frame_runs}
use Rattle.windows.specs.WindowSets.{window_runs}
use Rattle.notation.specs.Texts.{runs_text}
use Rattle.kinds.specs.Engine.{Engine}

-- `COUNT FRAMES WINDOWS`, frames and windows by their runs
abbrev pub amount_text : Engine → List ℕ
amount_text a =
    decimal a.first.value
    ++ (codes " " ++ (runs_text (frame_runs a.second.first) ++ (codes " " ++ runs_text (window_runs a.second.second))))
