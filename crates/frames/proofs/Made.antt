-- An array that a closure made: each element is what the closure gave at its index.
use Rattle.std.proofs.Common.{◌≡◌, ℕ, zero, suc, ◌+◌, ◌<◌, ◌≤◌, List, get_or, ap, ◌∙◌, arith, subst, sym, ⊎_elim}
use Rattle.std.proofs.lemmas.Bool.{cases_eq}
use denote.Param.Members.{Mut}
use Rattle.std.specs.Fn.{Called}
use Rattle.std.specs.Array.{IsFromFnResult, IsFromFnResultFrom}

module _ {F : Type 0} (g : Mut F (ℕ × Unit {0}) ℕ) (f : F) (h : ℕ → ℕ) (acts : (i y : ℕ) (q : F) → Called g f (i, tt) y q → (q ≡ f) × (y ≡ h i)) where
  made_from : (ys : List ℕ) (i n : ℕ) → IsFromFnResultFrom g f ys i n → (k : ℕ) → i ≤ k → k < i + n → get_or ys k 0 ≡ h k
  made_from ys i zero e k ge lt = absurd (omega arith)
  made_from ys i (suc n) (q, y, at, call, rest) k ge lt =
      let same = acts i y q call in
      ⊎_elim
      (λ (eq : k ≡ i). ap (λ j. get_or ys j 0) eq ∙ at.1 0 ∙ same.1 ∙ ap h (sym eq))
      (λ (ne : k ≡ i → ⊥). made_from ys (i + 1) n (subst (λ (p : F). IsFromFnResultFrom g p ys (i + 1) n) same.0 rest) k (omega (arith, ne)) (omega arith))
      (cases_eq k i)

  pub made : {ys : List ℕ} {n : ℕ} → IsFromFnResult g f ys n → (i : ℕ) → i < n → get_or ys i 0 ≡ h i
  made {ys} {n} e i lt = made_from ys 0 n e.each i (omega arith) (omega arith)
