-- The lines that an input has yet to give. Assumes nothing.
use Rattle.std.specs.Prelude.{ℕ, List, Option}
use Rattle.std.specs.Borrow.{Bor}
use Rattle.notation.specs.declared.lines.Lines.{Lines}
use Rattle.notation.specs.Cut.{lines}
use Rattle.notation.specs.Left.{Gave}

-- the lines that s has yet to give
abbrev pub lines_left : Lines → List (List ℕ)
lines_left s = lines s.rest.now

-- r is the first of the lines of s, if there is one, and t has the others
abbrev pub LineStep : Lines → Option (Bor (List ℕ)) → Lines → Type 0
LineStep s r t = Gave (lines_left s) r (lines_left t)
