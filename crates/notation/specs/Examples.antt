-- Examples that hold by computation, most of them at a limit or just beyond it. Assumes nothing.
use Rattle.std.specs.Prelude.{◌≡◌, ℕ, List, [], ◌∷◌, Some, None, codes, Option}
use Prim.Native.String.{String}
use Rattle.sets.specs.Runs.{run}
use Rattle.notation.specs.Cut.{lines}
use Rattle.notation.specs.Numbers.{number}
use Rattle.notation.specs.Spans.{part}
use Rattle.notation.specs.Texts.{runs_text}
use Rattle.notation.specs.declared.spans.Span.{Span}

-- the reading of a part that is the span `from..to`
abbrev spanning : ℕ → ℕ → Option (Option Span)
spanning from to = Some (Some (record { from = from; to = to }))

-- none of the texts can be read
abbrev pub Unread : {X : Type 0} → (List ℕ → Option X) → List String → Type 0
Unread read [] = Unit {0}
Unread read (t ∷ ts) = (read (codes t) ≡ None) × Unread read ts

-- numbers of one to ten digits that 32 bits hold
abbrev pub NumbersAsMeant : Type 0
NumbersAsMeant =
    (number (codes "0") ≡ Some 0)
    × (number (codes "4294967295") ≡ Some 4294967295)
    × (number (codes "0000000007") ≡ Some 7)
    × Unread number ("" ∷ "4294967296" ∷ "00000000007" ∷ "+1" ∷ "-" ∷ "1 " ∷ [])

-- spans of two numbers with two dots between them, whether or not the first is smaller, and `-`
abbrev pub SpansAsMeant : Type 0
SpansAsMeant =
    (part (codes "0..8") ≡ spanning 0 8)
    × (part (codes "9..0000000003") ≡ spanning 9 3)
    × (part (codes "-") ≡ Some None)
    × Unread part ("" ∷ "--" ∷ "0" ∷ "0.8" ∷ "0...8" ∷ "..8" ∷ "0.." ∷ " 0..8" ∷ "0..8,9..9" ∷ "0..4294967296" ∷ [])

-- lines with and without an end
abbrev pub LinesAsMeant : Type 0
LinesAsMeant =
    (lines [] ≡ [])
    × (lines (codes "\n") ≡ [] ∷ [])
    × (lines (codes "a\nb") ≡ codes "a" ∷ codes "b" ∷ [])
    × (lines (codes "a\n\nb\n") ≡ codes "a" ∷ [] ∷ codes "b" ∷ [])

-- no run, one and two
abbrev pub TextsAsMeant : Type 0
TextsAsMeant =
    (runs_text [] ≡ codes "-")
    × (runs_text (run 0 65535 ∷ []) ≡ codes "0..65535")
    × (runs_text (run 0 2 ∷ run 4 8 ∷ []) ≡ codes "0..2,4..8")
