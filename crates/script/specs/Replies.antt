-- The text of what is replied to a line, and the number and the place of each refusal. Assumes nothing.
use Rattle.std.specs.Prelude.{ℕ, List, ◌++◌, Some, None, Ok, Err, codes, decimal, Option, Result}
use Rattle.kind.specs.Refusals.{Report, amount_refusal}
use Rattle.kinds.specs.Engine.{Engine}
use Rattle.tables.specs.Refusals.{refusal_report}
use Rattle.amounts.specs.Showing.{amount_text}
use Rattle.script.specs.declared.reply.Done.{Done}
use Rattle.script.specs.declared.reply.LineRefusal.{LineRefusal}
use Rattle.script.specs.declared.reply.LineRefusal.TheVariants.{Unreadable, OutOfTurn, Amount, Call}

-- the number and the place of each refusal of a line
abbrev pub line_report : LineRefusal → Report
line_report (Unreadable n) = record { number = 1; place = n }
line_report (OutOfTurn n) = record { number = 11; place = n }
line_report (Amount e) = amount_refusal e
line_report (Call e) = refusal_report e

-- an amount after a result, if there is one
abbrev pub amount_after : Option Engine → List ℕ
amount_after None = codes ""
amount_after (Some a) = codes " " ++ amount_text a

-- `ok RESULT`, with the amount after it if there is one, or `no NUMBER PLACE`
abbrev pub reply_text : Result Done LineRefusal → List ℕ
reply_text (Ok d) = codes "ok " ++ (decimal d.result ++ amount_after d.amount)
reply_text (Err e) = codes "no " ++ (decimal (line_report e).number ++ (codes " " ++ decimal (line_report e).place))
