-- A line of a plan: `NAME COUNT FRAMES GREEN`, divided by single spaces. Assumes nothing.
use Rattle.std.specs.Prelude.{ℕ, List, Option}
use Rattle.notation.specs.Cut.{pieces}
use Rattle.notation.specs.Forms.{go_on, end}
use Rattle.notation.specs.Left.{first_read, others}
use Rattle.amounts.specs.Reading.{written, after_three}
use Rattle.amounts.specs.declared.written.Written.{Written}
use Rattle.stages.specs.Names.{name}
use Rattle.stages.specs.declared.stage.Stage.{Stage}

-- a stage: its name, and the amount that it takes
pub record Named : Type 0 where
  pub called : List ℕ
  pub takes : Written

-- a name, an amount and nothing more
abbrev pub stage_fields : List (List ℕ) → Option Named
stage_fields ps =
    go_on (first_read name ps) (λ n. go_on (written (others ps)) (λ w. end (record { called = n; takes = w }) (after_three (others ps))))

-- the stage that a line says, if it says one
abbrev pub stage : List ℕ → Option Named
stage bs = stage_fields (pieces 32 bs)

-- what is read of a line
abbrev pub as_named : Stage → Named
as_named s = record { called = s.name.now; takes = s.takes }
