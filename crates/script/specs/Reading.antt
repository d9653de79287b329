-- Which bytes read as which command. Assumes nothing.
use Rattle.std.specs.Prelude.{ℕ, cond, List, Some, None, Option}
use Rattle.notation.specs.Cut.{pieces}
use Rattle.notation.specs.Forms.{go_on, end}
use Rattle.notation.specs.Left.{first_read, others}
use Rattle.notation.specs.Numbers.{number}
use Rattle.notation.specs.Words.{is}
use Rattle.amounts.specs.Reading.{written, after_three}
use Rattle.amounts.specs.declared.written.Written.{Written}
use Rattle.script.specs.declared.command.Command.{Command}
use Rattle.script.specs.declared.command.Command.TheVariants.{Set, Open, Buy, Back, Reclaim, Up, Stock}

-- two numbers, and k of them and the fields after them
abbrev pub two_numbers : {X : Type 0} → (ℕ → ℕ → List (List ℕ) → Option X) → List (List ℕ) → Option X
two_numbers k ps = go_on (first_read number ps) (λ m. go_on (first_read number (others ps)) (λ n. k m n (others (others ps))))

-- an amount and no more
abbrev pub last_amount : (Written → Command Written) → List (List ℕ) → Option (Command Written)
last_amount f ps = go_on (written ps) (λ a. end (f a) (after_three ps))

-- one number and no more
abbrev pub last_number : (ℕ → Command Written) → List (List ℕ) → Option (Command Written)
last_number f ps = go_on (first_read number ps) (λ n. end (f n) (others ps))

-- the fields after each word
abbrev pub set_fields : List (List ℕ) → Option (Command Written)
set_fields = last_amount Set

abbrev pub open_fields : List (List ℕ) → Option (Command Written)
open_fields = two_numbers (λ p c. last_amount (Open p c))

abbrev pub buy_fields : List (List ℕ) → Option (Command Written)
buy_fields = two_numbers (λ b r. last_amount (Buy b r))

abbrev pub back_fields : List (List ℕ) → Option (Command Written)
back_fields = two_numbers (λ r n. end (Back r n))

abbrev pub reclaim_fields : List (List ℕ) → Option (Command Written)
reclaim_fields = last_number Reclaim

abbrev pub up_fields : List (List ℕ) → Option (Command Written)
up_fields = last_number Up

-- the fields after a word, if it is one
abbrev pub fields_after : List ℕ → List (List ℕ) → Option (Command Written)
fields_after w ps =
    cond (is "set" w) (set_fields ps)
    (cond (is "open" w) (open_fields ps)
    (cond (is "buy" w) (buy_fields ps)
    (cond (is "back" w) (back_fields ps)
    (cond (is "reclaim" w) (reclaim_fields ps)
    (cond (is "up" w) (up_fields ps)
    (cond (is "stock" w) (end Stock ps) None))))))

-- the command that a line says: its fields are divided by single spaces
abbrev pub command : List ℕ → Option (Command Written)
command bs = let ps = pieces 32 bs in go_on (first_read Some ps) (λ w. fields_after w (others ps))
