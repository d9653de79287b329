-- Cut pieces lack the mark, give the bytes again, and are the only ones to do so.
use Rattle.std.proofs.Common.{◌≡◌, ℕ, zero, suc, ◌<◌, Bool, true, false, eqb, List, [], ◌∷◌, ◌++◌, length, refl, ap, ◌∙◌, arith}
use Rattle.std.proofs.lemmas.Bool.{eqb-true, eqb-false, eq-eqb, ne_eqb}
use Rattle.std.specs.Str.Iter.{LacksByte}
use Rattle.std.specs.List.{join_with_byte, AllByRecursion}
use Rattle.notation.proofs.Cutting.{with_byte, some_piece, uncut}
use Rattle.notation.specs.Cut.{pieces, on_first}
use Rattle.notation.specs.Laws.{CutsExactly, CutsOneWay}

-- no bytes lack the mark
pub lacks_nil : (mark : ℕ) → LacksByte mark []
lacks_nil mark k lt e = absurd (omega arith)

-- one byte more, which is not the mark
lacks_cons : (mark b : ℕ) (bs : List ℕ) → (b ≡ mark → ⊥) → LacksByte mark bs → LacksByte mark (b ∷ bs)
lacks_cons mark b bs other lacks zero lt e = other e
lacks_cons mark b bs other lacks (suc k) lt e = lacks k (omega arith) e

-- one byte more leaves pieces that lack the mark
lacks_step : (mark b : ℕ) (ps : List (List ℕ)) (marked : Bool)
    → eqb b mark ≡ marked → AllByRecursion (LacksByte mark) ps → AllByRecursion (LacksByte mark) (with_byte b ps marked)
lacks_step mark b ps true is all = (lacks_nil mark, all)
lacks_step mark b [] false is all = tt
lacks_step mark b (p ∷ ps) false is all = (lacks_cons mark b p (eqb-false b mark is) all.0, all.1)

-- each piece lacks the mark
all_lack : (mark : ℕ) (bs : List ℕ) → AllByRecursion (LacksByte mark) (pieces mark bs)
all_lack mark [] = (lacks_nil mark, tt)
all_lack mark (b ∷ bs) = lacks_step mark b (pieces mark bs) (eqb b mark) refl (all_lack mark bs)

-- one byte more stands in front of the bytes again
rejoin_step : (mark b : ℕ) (bs : List ℕ) (ps : List (List ℕ)) (marked : Bool)
    → eqb b mark ≡ marked → 0 < length ps → join_with_byte mark ps ≡ bs → join_with_byte mark (with_byte b ps marked) ≡ b ∷ bs
rejoin_step mark b bs [] marked is some e = absurd (omega arith)
rejoin_step mark b bs (p ∷ ps) true is some e = rw (eqb-true b mark is) (ap (λ l. mark ∷ l) e)
rejoin_step mark b bs (p ∷ []) false is some e = ap (λ l. b ∷ l) e
rejoin_step mark b bs (p ∷ q ∷ ps) false is some e = ap (λ l. b ∷ l) e

-- the pieces give the bytes again
rejoin : (mark : ℕ) (bs : List ℕ) → join_with_byte mark (pieces mark bs) ≡ bs
rejoin mark [] = refl
rejoin mark (b ∷ bs) = rejoin_step mark b bs (pieces mark bs) (eqb b mark) refl (some_piece mark bs) (rejoin mark bs)

-- the pieces lack the mark and give the bytes again
pub cuts_exactly_lem : CutsExactly
cuts_exactly_lem mark bs = (all_lack mark bs, rejoin mark bs)

-- bytes that lack the mark, then a mark, begin with those bytes as a piece
cut_here : (mark : ℕ) (p rest : List ℕ) → LacksByte mark p → pieces mark (p ++ (mark ∷ rest)) ≡ p ∷ pieces mark rest
cut_here mark [] rest lacks = rw (eq-eqb mark mark refl)
cut_here mark (b ∷ p) rest lacks =
    rw (ne_eqb b mark (lacks 0 (omega arith))) (ap (on_first b) (cut_here mark p rest (λ k h. lacks (suc k) (omega arith))))

-- pieces that lack the mark are those that their bytes are cut into
pub cuts_one_way : CutsOneWay
cuts_one_way mark p [] all = uncut mark p all.0
cuts_one_way mark p (q ∷ ps) all =
    cut_here mark p (join_with_byte mark (q ∷ ps)) all.0 ∙ ap (λ l. p ∷ l) (cuts_one_way mark q ps all.1)
