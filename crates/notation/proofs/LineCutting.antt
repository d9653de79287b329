-- Where the first line ends, and how many lines there are.
use Rattle.std.proofs.Common.{◌≡◌, ℕ, ◌+◌, ◌<◌, ◌≤◌, Bool, true, false, eqb, List, [], ◌∷◌, length, Some, None, Option, unwrap_or, refl, ap, ◌∙◌, arith, Bor}
use Rattle.notation.proofs.Cutting.{with_byte, some_piece}
use Rattle.notation.specs.Cut.{pieces, without_last_empty, lines}
use Rattle.notation.specs.Left.{after}

-- a lone piece that a byte more leaves is not empty
lone_step : (b : ℕ) (ps : List (List ℕ)) (marked : Bool) (p : List ℕ) → 0 < length ps → with_byte b ps marked ≡ p ∷ [] → 0 < length p
lone_step b ps true p some e = let gone : ps ≡ [] = cc in absurd (omega (arith, ap length gone))
lone_step b (q ∷ qs) false p some e = let is : b ∷ q ≡ p = cc in omega (arith, ap length is)
lone_step b [] false p some e = absurd (omega arith)

-- a lone piece of some bytes is not empty
lone : (mark : ℕ) (bs p : List ℕ) → 0 < length bs → pieces mark bs ≡ p ∷ [] → 0 < length p
lone mark [] p some e = absurd (omega arith)
lone mark (b ∷ bs) p some e = lone_step b (pieces mark bs) (eqb b mark) p (some_piece mark bs) e

-- a piece before others is a line
not_last : (p : List ℕ) (ps : List (List ℕ)) → 0 < length ps → without_last_empty (p ∷ ps) ≡ p ∷ without_last_empty ps
not_last p [] some = absurd (omega arith)
not_last p (q ∷ qs) some = refl

-- a last piece that is not empty is a line
last_line : (p : List ℕ) → 0 < length p → without_last_empty (p ∷ []) ≡ p ∷ []
last_line [] some = absurd (omega arith)
last_line (b ∷ p) some = refl

-- the first piece of some bytes is their first line, and the bytes after its mark, or none, have the other lines
pub first-line : (bs p : List ℕ) (rest : Option (Bor (List ℕ))) (empty next : Bor (List ℕ))
    → 0 < length bs → empty.now ≡ [] → pieces 10 bs ≡ p ∷ after 10 rest → next ≡ unwrap_or rest empty → lines bs ≡ p ∷ lines next.now
first-line bs p None empty next some none cut is = ap without_last_empty cut ∙ last_line p (lone 10 bs p some cut) ∙ rw (is, none)
first-line bs p (Some rest) empty next some none cut is =
    ap without_last_empty cut ∙ not_last p (pieces 10 rest.now) (some_piece 10 rest.now) ∙ rw is

-- one byte more adds at most one line
few_step : (b : ℕ) (ps : List (List ℕ)) (marked : Bool) (n : ℕ)
    → 0 < length ps → length (without_last_empty ps) ≤ n → length (without_last_empty (with_byte b ps marked)) ≤ n + 1
few_step b ps true n some few = omega (arith, ap length (not_last [] ps some))
few_step b [] false n some few = absurd (omega arith)
few_step b (p ∷ []) false n some few = omega arith
few_step b (p ∷ q ∷ qs) false n some few = omega (arith, ap length (not_last p (q ∷ qs) (omega arith)))

-- there are no more lines than bytes
pub few_lines : (bs : List ℕ) → length (lines bs) ≤ length bs
few_lines [] = omega arith
few_lines (b ∷ bs) = omega (arith, few_step b (pieces 10 bs) (eqb b 10) (length bs) (some_piece 10 bs) (few_lines bs))
