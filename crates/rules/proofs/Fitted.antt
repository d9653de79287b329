-- No refusal is due: what that says of the checks, and of the table lengths.
use Rattle.std.proofs.Common.{◌≡◌, ℕ, ◌≤◌, Bool, true, false, List, ◌∷◌, length, Some, None, Option, refl, arith}
use Rattle.std.proofs.lemmas.Bool.{leb-true, and_parts, not-false}
use Rattle.kind.specs.Algebra.{Answers}
use Rattle.tables.specs.Tables.{State}
use Rattle.tables.specs.declared.refusal.Refusal.{Refusal}
use Rattle.rules.specs.Rules.{first, refuse_if, misfit}

some_none : {X : Type 0} (x : X) → Some x ≡ None → ⊥
some_none x e = let z : ◌≡◌ {A = ℕ} 0 1 = cc in omega arith

-- neither the first is due, nor one of the others
pub first_none : (x : Option Refusal) (xs : List (Option Refusal)) → first (x ∷ xs) ≡ None → (x ≡ None) × (first xs ≡ None)
first_none None xs e = (refl, e)
first_none (Some r) xs e = absurd (some_none r e)

pub if_none : (b : Bool) (r : Refusal) → refuse_if b r ≡ None → b ≡ false
if_none true r e = absurd (some_none r e)
if_none false r e = refl

-- tables that fit have a bank 0, and few rows
pub fitted : {A : Type 0} (q : Answers A) (s : State A) → misfit q s ≡ None → (1 ≤ length s.banks) × (length s.banks ≤ 64) × (1 ≤ length s.grants) × (length s.grants ≤ 1024)
fitted q s e =
    let b = first_none _ _ e in
    let g = first_none _ _ b.1 in
    let bs = and_parts _ _ (not-false _ (if_none _ _ b.0)) in
    let gs = and_parts _ _ (not-false _ (if_none _ _ g.0)) in
    (leb-true _ _ bs.0, leb-true _ _ bs.1, leb-true _ _ gs.0, leb-true _ _ gs.1)
