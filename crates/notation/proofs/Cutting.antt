-- Where the first piece ends, and that there is one.
use Rattle.std.proofs.Common.{◌≡◌, ℕ, zero, suc, ◌+◌, ◌<◌, Bool, true, false, cond, eqb, List, [], ◌∷◌, length, get_or, take, drop, refl, ap, add-one, arith}
use Rattle.std.proofs.lemmas.Bool.{eq-eqb, ne_eqb}
use Rattle.notation.specs.Cut.{pieces, on_first}

-- none of the first n bytes is the mark
abbrev pub Unmarked : ℕ → List ℕ → ℕ → Type 0
Unmarked mark bs n = (k : ℕ) → k < n → get_or bs k 0 ≡ mark → ⊥

-- the first mark stands at i, with `suc i` for `i + 1`
cut_at : (mark : ℕ) (bs : List ℕ) (i : ℕ)
    → i < length bs → Unmarked mark bs i → get_or bs i 0 ≡ mark → pieces mark bs ≡ take i bs ∷ pieces mark (drop (suc i) bs)
cut_at mark [] i lt un is = absurd (omega arith)
cut_at mark (b ∷ bs) zero lt un is = rw (eq-eqb b mark is)
cut_at mark (b ∷ bs) (suc i) lt un is =
    rw (ne_eqb b mark (un 0 (omega arith)))
    (ap (on_first b) (cut_at mark bs i (omega arith) (λ k h. un (suc k) (omega arith)) is))

-- the first mark stands at i
pub cut_first : (mark : ℕ) (bs : List ℕ) (i : ℕ)
    → i < length bs → Unmarked mark bs i → get_or bs i 0 ≡ mark → pieces mark bs ≡ take i bs ∷ pieces mark (drop (i + 1) bs)
cut_first mark bs i lt un is = rw add-one (cut_at mark bs i lt un is)

-- there is no mark
pub uncut : (mark : ℕ) (bs : List ℕ) → Unmarked mark bs (length bs) → pieces mark bs ≡ bs ∷ []
uncut mark [] un = refl
uncut mark (b ∷ bs) un =
    rw (ne_eqb b mark (un 0 (omega arith))) (ap (on_first b) (uncut mark bs (λ k h. un (suc k) (omega arith))))

-- the pieces with b in front of the bytes, where `marked` says if b is the mark
abbrev pub with_byte : ℕ → List (List ℕ) → Bool → List (List ℕ)
with_byte b ps marked = cond marked ([] ∷ ps) (on_first b ps)

-- one byte more leaves some piece
step_some : (b : ℕ) (ps : List (List ℕ)) (marked : Bool) → 0 < length ps → 0 < length (with_byte b ps marked)
step_some b ps true some = omega arith
step_some b (p ∷ ps) false some = omega arith
step_some b [] false some = absurd (omega arith)

-- there is always a piece
pub some_piece : (mark : ℕ) (bs : List ℕ) → 0 < length (pieces mark bs)
some_piece mark [] = omega arith
some_piece mark (b ∷ bs) = step_some b (pieces mark bs) (eqb b mark) (some_piece mark bs)
