-- What each line of a script comes to, and the transcript of a script. Assumes nothing.
use Rattle.std.specs.Prelude.{ℕ, ◌+◌, Bool, true, false, cond, not, List, [], ◌∷◌, ◌++◌, take, replicate, Some, None, Ok, Err, codes, Option, Result}
use Rattle.kind.specs.declared.refusal.AmountRefusal.{AmountRefusal}
use Rattle.kinds.specs.Engine.{Engine, engine_answers}
use Rattle.tables.specs.Tables.{State, free_bank, free_grant}
use Rattle.tables.specs.declared.refusal.Refusal.{Refusal}
use Rattle.rules.specs.Rules.{Outcome, sets_up, opens, buys, backs, reclaims, hands_up, stocks}
use Rattle.notation.specs.Cut.{lines}
use Rattle.amounts.specs.declared.written.Written.{Written}
use Rattle.script.specs.Commands.{is_set, judged_command}
use Rattle.script.specs.Reading.{command}
use Rattle.script.specs.Replies.{reply_text}
use Rattle.script.specs.declared.command.Command.{Command}
use Rattle.script.specs.declared.command.Command.TheVariants.{Set, Open, Buy, Back, Reclaim, Up, Stock}
use Rattle.script.specs.declared.reply.Done.{Done}
use Rattle.script.specs.declared.reply.LineRefusal.{LineRefusal}
use Rattle.script.specs.declared.reply.LineRefusal.TheVariants.{Unreadable, OutOfTurn, Amount, Call}

-- where a script stands: whether a set was accepted, and the ledger
pub record Course : Type 0 where
  pub begun : Bool
  pub ledger : State Engine

-- what a line came to: the reply to it, and where the script stands after it
pub record Turn : Type 0 where
  pub reply : Result Done LineRefusal
  pub after : Course

-- at first nothing is set, and 8 banks and 32 grants are free
abbrev pub first_course : Course
first_course = record {
  begun = false;
  ledger = record { last = 0; banks = replicate 8 (free_bank engine_answers.empty); grants = replicate 32 (free_grant engine_answers.empty) };
}

-- what a command comes to, by the rule of its call
abbrev pub comes_to : Command Engine → State Engine → Outcome Engine
comes_to (Set e) s = sets_up engine_answers e s
comes_to (Open p c limit) s = opens engine_answers s p c limit
comes_to (Buy b r a) s = buys engine_answers s b r a
comes_to (Back r n) s = backs engine_answers s r n
comes_to (Reclaim d) s = reclaims engine_answers s d
comes_to (Up d) s = hands_up engine_answers s d
comes_to Stock s = stocks engine_answers s

-- an accepted call is done, with its result and what was delivered
abbrev pub done_of : Result ℕ Refusal → Option Engine → Result Done Refusal
done_of (Ok n) placed = Ok (record { result = n; amount = placed })
done_of (Err e) placed = Err e

-- the reply to an answer, with what was delivered
abbrev pub reply_of : Result ℕ Refusal → Option Engine → Result Done LineRefusal
reply_of (Ok n) placed = Ok (record { result = n; amount = placed })
reply_of (Err e) placed = Err (Call e)

abbrev pub is_accepted : Result ℕ Refusal → Bool
is_accepted (Ok n) = true
is_accepted (Err e) = false

-- a command that is carried out; an accepted set begins
abbrev pub carried : Course → Command Engine → Turn
carried x c =
    let o = comes_to c x.ledger in
    record { reply = reply_of o.answer o.placed; after = record { begun = cond (is_set c) (is_accepted o.answer) x.begun; ledger = o.after } }

-- a line that is refused leaves all as it was
abbrev pub refused_line : LineRefusal → Course → Turn
refused_line e x = record { reply = Err e; after = x }

-- a set after an accepted set, or another command before one
abbrev pub out_of_turn : {A : Type 0} → Bool → Command A → Bool
out_of_turn begun c = cond (is_set c) begun (not begun)

abbrev pub judged_turn : Course → Result (Command Engine) AmountRefusal → Turn
judged_turn x (Ok c) = carried x c
judged_turn x (Err e) = refused_line (Amount e) x

-- line n is checked for being readable, for its turn and for its amount, and then by its call
abbrev pub turn : ℕ → Course → Option (Command Written) → Turn
turn n x None = refused_line (Unreadable n) x
turn n x (Some c) = cond (out_of_turn x.begun c) (refused_line (OutOfTurn n) x) (judged_turn x (judged_command c))

-- what is printed of the lines from number n on, one line for each
abbrev pub transcript_from : ℕ → Course → List (List ℕ) → List ℕ
transcript_from n x [] = []
transcript_from n x (l ∷ ls) = let t = turn n x (command l) in (reply_text t.reply ++ codes "\n") ++ transcript_from (n + 1) t.after ls

-- the bytes of an input that are read
abbrev pub read_bytes : List ℕ → List ℕ
read_bytes bs = take 65536 bs

-- what is printed of an input
abbrev pub transcript : List ℕ → List ℕ
transcript bs = transcript_from 1 first_course (lines (read_bytes bs))
