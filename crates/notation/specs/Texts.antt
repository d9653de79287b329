-- The text of runs, and of spans as they are read. Assumes nothing.
use Rattle.std.specs.Prelude.{ℕ, List, [], ◌∷◌, ◌++◌, Some, None, codes, Option}
use Rattle.std.specs.List.{flat_map}
use Rattle.sets.specs.Texts.{ends_text, run_text}
use Rattle.sets.specs.declared.run.Run.{Run}
use Rattle.notation.specs.declared.spans.Span.{Span}

-- the text of a run that follows another
abbrev pub comma_run : Run → List ℕ
comma_run r = codes "," ++ run_text r

-- the text of runs, divided by commas, or `-` where there is none
abbrev pub runs_text : List Run → List ℕ
runs_text [] = codes "-"
runs_text (r ∷ rs) = run_text r ++ flat_map comma_run rs

-- the text of a span
abbrev pub span_text : Span → List ℕ
span_text s = ends_text s.from s.to

-- the text of a span, or `-` for none
abbrev pub part_text : Option Span → List ℕ
part_text None = codes "-"
part_text (Some s) = span_text s
