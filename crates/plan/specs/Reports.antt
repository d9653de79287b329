-- What is printed of a plan: a line for each line, what is held at the end, and what of a full cycle is left. Assumes nothing.
use Rattle.std.specs.Prelude.{ℕ, ◌+◌, List, [], ◌∷◌, ◌++◌, Some, None, Ok, Err, codes, decimal, Option, Result}
use Rattle.kind.specs.Refusals.{amount_refusal}
use Rattle.kind.specs.declared.refusal.AmountRefusal.{AmountRefusal}
use Rattle.kind.specs.declared.refusal.AmountRefusal.TheVariants.{CountTooLarge, BadRun}
use Rattle.count.specs.Counts.{count_of}
use Rattle.count.specs.Top.{top}
use Rattle.frames.specs.FrameSets.{frame_runs, frames_of}
use Rattle.frames.specs.Sizes.{frame_count}
use Rattle.sets.specs.Runs.{within}
use Rattle.windows.specs.WindowSets.{window_runs, windows_of}
use Rattle.windows.specs.Sizes.{second_count}
use Rattle.kinds.specs.Bundles.{both}
use Rattle.notation.specs.Texts.{runs_text}
use Rattle.kinds.specs.Engine.{Engine, engine_answers}
use Rattle.amounts.specs.Judging.{judged}
use Rattle.stages.specs.Stages.{Named, stage}
use Rattle.junction.specs.Verdicts.{verdict, held_after}
use Rattle.junction.specs.Conflicts.{conflict_text}
use Rattle.junction.specs.declared.conflict.Conflict.{Conflict}
use Rattle.plan.specs.declared.line.LineReport.{LineReport}
use Rattle.plan.specs.declared.line.LineReport.TheVariants.{Unread, Refused, Judged}

-- an amount in words
abbrev pub words_text : Engine → List ℕ
words_text a =
    decimal a.first.value
    ++ (codes " vehicles, frames " ++ (runs_text (frame_runs a.second.first) ++ (codes ", green " ++ runs_text (window_runs a.second.second))))

-- the whole of a cycle: all vehicles that a count can have, all frames, all seconds
abbrev pub full_cycle : Engine
full_cycle = both (count_of top) (both (frames_of (within 0 frame_count)) (windows_of (within 0 second_count)))

-- what of it is left
abbrev pub left_over : Engine → Engine
left_over held = engine_answers.remainder full_cycle held

-- a verdict in words
abbrev pub verdict_text : Result (Unit {0}) Conflict → List ℕ
verdict_text (Ok _) = codes "added"
verdict_text (Err c) = codes "does not fit, " ++ conflict_text c

-- why an amount is refused
abbrev pub reason_text : AmountRefusal → List ℕ
reason_text CountTooLarge = codes "the count is too large"
reason_text BadRun = codes "a run is empty, turned round or beyond the end"

-- a refusal in words and numbers
abbrev pub refusal_text : AmountRefusal → List ℕ
refusal_text e =
    codes "refused with " ++ (decimal (amount_refusal e).number ++ (codes " at " ++ (decimal (amount_refusal e).place ++ (codes ", " ++ reason_text e))))

-- a line that cannot be read, a stage whose amount is refused, and a stage that is judged
abbrev pub unread_text : List ℕ
unread_text = codes "cannot be read"

abbrev pub refused_text : List ℕ → AmountRefusal → List ℕ
refused_text called e = called ++ (codes " is " ++ refusal_text e)

abbrev pub judged_text : List ℕ → Engine → Result (Unit {0}) Conflict → List ℕ
judged_text called a v = called ++ (codes " takes " ++ (words_text a ++ (codes ": " ++ verdict_text v)))

abbrev pub report_text : LineReport → List ℕ
report_text Unread = unread_text
report_text (Refused name e) = refused_text name.now e
report_text (Judged name a v) = judged_text name.now a v

-- the end of the report: what is held, and what is left
abbrev pub end_text : Engine → List ℕ
end_text held = codes "held: " ++ (words_text held ++ (codes "\nleft of a full cycle: " ++ (words_text (left_over held) ++ codes "\n")))

-- what is reported of a stage, and what is held after it
abbrev pub amount_report : Engine → List ℕ → Result Engine AmountRefusal → List ℕ
amount_report held called (Ok a) = judged_text called a (verdict held a)
amount_report held called (Err e) = refused_text called e

abbrev pub held_then : Engine → Result Engine AmountRefusal → Engine
held_then held (Ok a) = held_after held a
held_then held (Err e) = held

-- what is reported of a line, and what is held after it
abbrev pub line_report : Engine → Option Named → List ℕ
line_report held None = unread_text
line_report held (Some s) = amount_report held s.called (judged s.takes)

abbrev pub held_line : Engine → Option Named → Engine
held_line held None = held
held_line held (Some s) = held_then held (judged s.takes)

-- what is printed of line n
abbrev pub line_text : ℕ → Engine → Option Named → List ℕ
line_text n held o = codes "line " ++ (decimal n ++ (codes ": " ++ (line_report held o ++ codes "\n")))

-- what is printed of the lines from number n on
abbrev pub plan_report : ℕ → Engine → List (List ℕ) → List ℕ
plan_report n held [] = end_text held
plan_report n held (l ∷ ls) = line_text n held (stage l) ++ plan_report (n + 1) (held_line held (stage l)) ls
