-- The first number that two sets share is in both, and where there is none, no number is.
use Rattle.std.proofs.Common.{◌≡◌, ℕ, zero, suc, ◌+◌, ◌<◌, ◌≤◌, Bool, true, false, cond, eqb, ◌&&◌, Some, None, MatchOption, find, Option, refl, ap, sym, ◌∙◌, ⊎_elim, arith}
use Rattle.std.proofs.lemmas.Bool.{true≢false, and_parts, and_from, cases_eq, eqb-true, eq-eqb}
use Rattle.std.specs.List.{range_with_len}
use Rattle.junction.specs.Verdicts.{first_shared}

module _ (p : ℕ → Bool) where
  abbrev Found : ℕ → ℕ → Option ℕ → Type 0
  Found d k r = MatchOption r ((j : ℕ) → k ≤ j → j < k + d → p j ≡ false) (λ i. (i < k + d) × (p i ≡ true))

  -- the d numbers from k on
  found : (d k : ℕ) → Found d k (find p (range_with_len k d))
  found zero k = λ j ge lt. absurd (omega arith)
  found (suc d) k = by (p k) refl (find p (range_with_len (k + 1) d)) (found d (k + 1))
    where
      by : (b : Bool) → p k ≡ b → (r : Option ℕ) → Found d (k + 1) r → Found (suc d) k (cond b (Some k) r)
      by true e r h = (omega arith, e)
      by false e None h = λ j ge lt. ⊎_elim (λ (is : j ≡ k). ap p is ∙ e) (λ (ne : j ≡ k → ⊥). h j (omega (arith, ne)) (omega arith)) (cases_eq j k)
      by false e (Some i) h = (omega (arith, h.0), h.1)

pub shared_found : (n : ℕ) (f g : ℕ → ℕ)
    → MatchOption (first_shared n f g) ((k : ℕ) → k < n → f k ≡ 1 → g k ≡ 1 → ⊥) (λ k. (k < n) × (f k ≡ 1) × (g k ≡ 1))
unfolding first_shared
shared_found n f g = by (find p (range_with_len 0 n)) (found p n 0)
  where
    p : ℕ → Bool
    p k = eqb (f k) 1 && eqb (g k) 1

    by : (r : Option ℕ) → Found p n 0 r → MatchOption r ((k : ℕ) → k < n → f k ≡ 1 → g k ≡ 1 → ⊥) (λ k. (k < n) × (f k ≡ 1) × (g k ≡ 1))
    by None h = λ k lt a b. true≢false (sym (and_from _ _ (eq-eqb (f k) 1 a) (eq-eqb (g k) 1 b)) ∙ h k (omega arith) (omega arith))
    by (Some k) h = let q = and_parts (eqb (f k) 1) (eqb (g k) 1) h.1 in (omega (arith, h.0), eqb-true _ _ q.0, eqb-true _ _ q.1)
