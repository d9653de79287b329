-- Cut pieces are the only ones that give the bytes again, and what is written is read as itself. Assumes nothing.
use Rattle.std.specs.Prelude.{◌≡◌, ℕ, ◌^◌, ◌<◌, List, ◌∷◌, Some, None, decimal, Option}
use Rattle.std.specs.Str.Iter.{LacksByte}
use Rattle.std.specs.List.{join_with_byte, AllByRecursion}
use Rattle.notation.specs.Cut.{pieces}
use Rattle.notation.specs.Numbers.{number}
use Rattle.notation.specs.Spans.{part}
use Rattle.notation.specs.Texts.{part_text}
use Rattle.notation.specs.declared.spans.Span.{Span}

-- the pieces lack the mark, and with a mark between each two they are the bytes
abbrev pub CutsExactly : Type 0
CutsExactly = (mark : ℕ) (bs : List ℕ) → AllByRecursion (LacksByte mark) (pieces mark bs) × (join_with_byte mark (pieces mark bs) ≡ bs)

-- and no other pieces are
abbrev pub CutsOneWay : Type 0
CutsOneWay =
    (mark : ℕ) (p : List ℕ) (ps : List (List ℕ)) → AllByRecursion (LacksByte mark) (p ∷ ps) → pieces mark (join_with_byte mark (p ∷ ps)) ≡ p ∷ ps

-- 32 bits hold n
abbrev pub Small : ℕ → Type 0
Small n = n < 2 ^ 32

-- 32 bits hold each end of the span, if there is one
abbrev pub SmallPart : Option Span → Type 0
SmallPart None = Unit {0}
SmallPart (Some s) = Small s.from × Small s.to

-- a number in decimal is read as itself
abbrev pub NumbersReadBack : Type 0
NumbersReadBack = (n : ℕ) → Small n → number (decimal n) ≡ Some n

-- a span or none, as text, is read as itself
abbrev pub SpansReadBack : Type 0
SpansReadBack = (o : Option Span) → SmallPart o → part (part_text o) ≡ Some o
