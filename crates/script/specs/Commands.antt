-- Commands with their amounts judged. Assumes nothing.
use Rattle.std.specs.Prelude.{Bool, true, false, Ok, Result}
use Rattle.kind.specs.declared.refusal.AmountRefusal.{AmountRefusal}
use Rattle.kinds.specs.Engine.{Engine}
use Rattle.amounts.specs.Judging.{and_then, judged}
use Rattle.amounts.specs.declared.written.Written.{Written}
use Rattle.script.specs.declared.command.Command.{Command}
use Rattle.script.specs.declared.command.Command.TheVariants.{Set, Open, Buy, Back, Reclaim, Up, Stock}

-- does the command set the ledger up?
abbrev pub is_set : {A : Type 0} → Command A → Bool
is_set (Set e) = true
is_set (Open p c limit) = false
is_set (Buy b r a) = false
is_set (Back r n) = false
is_set (Reclaim d) = false
is_set (Up d) = false
is_set Stock = false

-- a command with its amount judged, if it has one
abbrev pub judged_command : Command Written → Result (Command Engine) AmountRefusal
judged_command (Set e) = and_then (judged e) (λ x. Ok (Set x))
judged_command (Open p c limit) = and_then (judged limit) (λ x. Ok (Open p c x))
judged_command (Buy b r a) = and_then (judged a) (λ x. Ok (Buy b r x))
judged_command (Back r n) = Ok (Back r n)
judged_command (Reclaim d) = Ok (Reclaim d)
judged_command (Up d) = Ok (Up d)
judged_command Stock = Ok Stock
