-- An amount as three fields: a count, frames and windows. Assumes nothing.
use Rattle.std.specs.Prelude.{ℕ, List, Some, Option}
use Rattle.notation.specs.Forms.{go_on}
use Rattle.notation.specs.Left.{first_read, others}
use Rattle.notation.specs.Numbers.{number}
use Rattle.notation.specs.Spans.{part}
use Rattle.amounts.specs.declared.written.Written.{Written}

-- the fields after the next three
abbrev pub after_three : List (List ℕ) → List (List ℕ)
after_three ps = others (others (others ps))

-- the next three fields as an amount
abbrev pub written : List (List ℕ) → Option Written
written ps =
    go_on (first_read number ps) (λ count.
    go_on (first_read part (others ps)) (λ frames.
    go_on (first_read part (others (others ps))) (λ windows. Some (record { count = count; frames = frames; windows = windows }))))
