-- The span that bytes write. Assumes nothing.
use Rattle.std.specs.Prelude.{ℕ, cond, List, Some, None, Option}
use Rattle.std.specs.Option.{option_map}
use Rattle.std.specs.Bool.{then_some}
use Rattle.notation.specs.declared.spans.Span.{Span}
use Rattle.notation.specs.Cut.{pieces}
use Rattle.notation.specs.Forms.{next, end}
use Rattle.notation.specs.Numbers.{number}
use Rattle.notation.specs.Words.{is}

-- reads the empty piece, and no other
abbrev pub nothing : List ℕ → Option (Unit {0})
nothing bs = then_some (is "" bs) tt

-- the span `from..to`: its dots divide a number, nothing and a number
abbrev pub span : List ℕ → Option Span
span bs =
    next number (λ from. next nothing (λ _. next number (λ to. end (record { from = from; to = to })))) (pieces 46 bs)

-- a span, or `-` for none
abbrev pub part : List ℕ → Option (Option Span)
part bs = cond (is "-" bs) (Some None) (option_map Some (span bs))
