-- The text of a run. Assumes nothing.
use Rattle.std.specs.Prelude.{ℕ, List, ◌++◌, codes, decimal}
use Rattle.sets.specs.declared.run.Run.{Run}

-- the text `from..to`
abbrev pub ends_text : ℕ → ℕ → List ℕ
ends_text from to = decimal from ++ (codes ".." ++ decimal to)

-- the text of a run
abbrev pub run_text : Run → List ℕ
run_text r = ends_text r.from r.to
