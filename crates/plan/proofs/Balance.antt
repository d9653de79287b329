-- What is held after a plan is the join of the stages that were added.
use Rattle.std.proofs.Common.{◌≡◌, ℕ, Bool, true, false, cond, List, [], ◌∷◌, ◌++◌, Some, None, Ok, Err, Option, Result, refl}
use Rattle.kind.specs.Joins.{JoinsOn}
use Rattle.kind.specs.declared.refusal.AmountRefusal.{AmountRefusal}
use Rattle.kinds.specs.Engine.{Engine, EngineMakes}
use Rattle.amounts.specs.Judging.{judged}
use Rattle.plan.specs.Accounts.{Accounts, added, added_amount, all_added, held_at_end}
use Rattle.plan.specs.Reports.{held_then, held_line}
use Rattle.stages.specs.Stages.{Named, stage}
use Rattle.kinds.specs.Engine.{engine_answers}
use Rattle.kinds.proofs.EngineFacts.{engine_joins}
use Rattle.plan.proofs.FullCycle.{full_leaves}

-- the rest joins on from what is held after a line
abbrev Rest : Engine → Engine → List Engine → Engine → Type 0
Rest held after new end = (rest : List Engine) → JoinsOn EngineMakes after rest end → JoinsOn EngineMakes held (new ++ rest) end

one_amount : (held a end : Engine) (fits : Bool) → engine_answers.fits held a ≡ fits
    → Rest held (cond fits (engine_answers.join held a) held) (cond fits (a ∷ []) []) end
one_amount held a end true e rest j = (engine_answers.join held a, (engine_joins held a e, j))
one_amount held a end false e rest j = j

one_judged : (held end : Engine) (r : Result Engine AmountRefusal) → Rest held (held_then held r) (added_amount held r) end
one_judged held end (Err e) rest j = j
one_judged held end (Ok a) rest j = one_amount held a end (engine_answers.fits held a) refl rest j

one_line : (held end : Engine) (o : Option Named) → Rest held (held_line held o) (added held o) end
one_line held end None rest j = j
one_line held end (Some s) rest j = one_judged held end (judged s.takes) rest j

all_join : (held : Engine) (ls : List (List ℕ)) → JoinsOn EngineMakes held (all_added held ls) (held_at_end held ls)
all_join held [] = refl
all_join held (l ∷ ls) = one_line held _ (stage l) (all_added (held_line held (stage l)) ls) (all_join (held_line held (stage l)) ls)

pub accounts : (ls : List (List ℕ)) → Accounts ls
accounts ls = record { joined = all_join engine_answers.empty ls; balanced = full_leaves (held_at_end engine_answers.empty ls) }
