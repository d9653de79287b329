-- The law of plans: what is held is the join of the stages that were added, and with what is left it makes a full cycle. Assumes nothing.
use Rattle.std.specs.Prelude.{ℕ, cond, List, [], ◌∷◌, ◌++◌, Some, None, Ok, Err, Option, Result}
use Rattle.kind.specs.Joins.{JoinsOn}
use Rattle.kind.specs.declared.refusal.AmountRefusal.{AmountRefusal}
use Rattle.kinds.specs.Engine.{Engine, EngineMakes, engine_answers}
use Rattle.amounts.specs.Judging.{judged}
use Rattle.plan.specs.Reports.{full_cycle, left_over, held_line}
use Rattle.stages.specs.Stages.{Named, stage}

-- the amount, if it is one and fits what is held
abbrev pub added_amount : Engine → Result Engine AmountRefusal → List Engine
added_amount held (Err e) = []
added_amount held (Ok a) = cond (engine_answers.fits held a) (a ∷ []) []

-- the amount of a stage, if it was added to what was held
abbrev pub added : Engine → Option Named → List Engine
added held None = []
added held (Some s) = added_amount held (judged s.takes)

-- the amounts of the stages that were added, in order
abbrev pub all_added : Engine → List (List ℕ) → List Engine
all_added held [] = []
all_added held (l ∷ ls) = added held (stage l) ++ all_added (held_line held (stage l)) ls

-- what is held after all lines
abbrev pub held_at_end : Engine → List (List ℕ) → Engine
held_at_end held [] = held
held_at_end held (l ∷ ls) = held_at_end (held_line held (stage l)) ls

pub record Accounts (ls : List (List ℕ)) : Type 0 where
  pub joined : JoinsOn EngineMakes engine_answers.empty (all_added engine_answers.empty ls) (held_at_end engine_answers.empty ls)
  pub balanced : EngineMakes (held_at_end engine_answers.empty ls) (left_over (held_at_end engine_answers.empty ls)) full_cycle
