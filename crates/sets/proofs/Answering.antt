-- What code has to show, so that what it answers about sets is what the answers say.
use Rattle.std.proofs.Common.{◌≡◌, ℕ, ◌+◌, ◌-◌, ◌<◌, ◌≤◌, Bool, true, false, not, Decides, sym, refl, ap, ◌∙◌, ⊎_elim, arith}
use Rattle.std.proofs.lemmas.Bool.{cond-true, cases_lt, false≢true}
use Rattle.sets.specs.Members.{SameMembers, Has, OneOfTwo, vacant, apart, covers, union, without}
use Rattle.kind.proofs.Decisions.{not_so, agree}
use Rattle.sets.proofs.Unions.{Sets, all_leb, tells_empty}

module _ {A : Type 0} {n : ℕ} {at : A → ℕ → ℕ} {of : (ℕ → ℕ) → A} (sets : Sets n at of) where
  open sets use {one, same, made}

  -- a set is the one that is made of its numbers
  pub told : (x : A) (f : ℕ → ℕ) → ((k : ℕ) → f k ≤ 1) → Has n at f x → x ≡ of f
  told x f few has = same x (of f) (λ k h. omega (arith, has k h, made f k h, few k))

  pub same_members : (x y : A) (r : Bool) → Decides r (x ≡ y) → Decides r (SameMembers n at x y)
  same_members x y r d = (λ e k h. ap (λ z. at z k) (d.0 e), λ h. d.1 (same x y h))

  pub vacant-is : (x : A) (r : Bool) → Decides r (x ≡ of (λ _. 0)) → r ≡ vacant n at x
  vacant-is x r d = agree r (vacant n at x) d (tells_empty sets x)

  -- two tests of one fact, the one as it came out
  pub is-apart : (x y : A) → ((k : ℕ) → k < n → at x k + at y k ≤ 1) → true ≡ apart n at x y
  is-apart x y h = sym ((all_leb n (λ k. at x k + at y k) (λ _. 1)).1 h)

  pub not-apart : (x y : A) → (((k : ℕ) → k < n → at x k + at y k ≤ 1) → ⊥) → false ≡ apart n at x y
  not-apart x y h = not_so (apart n at x y) (λ e. h ((all_leb n (λ k. at x k + at y k) (λ _. 1)).0 e))

  pub apart-is : (x y : A) (r : Bool) → Decides r ((k : ℕ) → k < n → at x k + at y k ≤ 1) → r ≡ apart n at x y
  apart-is x y r d = agree r (apart n at x y) d (all_leb n (λ k. at x k + at y k) (λ _. 1))

  pub covers-is : (z x : A) (r : Bool) → Decides r ((k : ℕ) → k < n → at x k ≤ at z k) → r ≡ covers n at z x
  covers-is z x r d = agree r (covers n at z x) d (all_leb n (at x) (at z))

  pub is-covers : (z x : A) → ((k : ℕ) → k < n → at x k ≤ at z k) → true ≡ covers n at z x
  is-covers z x h = sym ((all_leb n (at x) (at z)).1 h)

  pub not-covers : (z x : A) → (((k : ℕ) → k < n → at x k ≤ at z k) → ⊥) → false ≡ covers n at z x
  not-covers z x h = not_so (covers n at z x) (λ e. h ((all_leb n (at x) (at z)).0 e))

  -- the numbers in one of two sets that are apart are their union, and those in one of a set and its part are what is left
  pub joins : (x y r : A) → apart n at x y ≡ true → OneOfTwo n at x y r → r ≡ union n at of x y
  joins x y r e m =
      let f : ℕ → ℕ = λ k. at x k + at y k in
      same r _ (λ k h. omega (arith, m k h, made f k h, (all_leb n f (λ _. 1)).0 e k h)) ∙ sym (cond-true _ _ _ e)

  pub leaves : (z x r : A) → covers n at z x ≡ true → OneOfTwo n at z x r → r ≡ without n at of z x
  leaves z x r e m =
      let f : ℕ → ℕ = λ k. at z k - at x k in
      same r _ (λ k h. omega (arith, m k h, made f k h, one z k, (all_leb n (at x) (at z)).0 e k h)) ∙ sym (cond-true _ _ _ e)

  -- a number in both, found or not
  pub apart_from : (x y : A) (r : Bool) → Decides r ((k : ℕ) × (k < n) × (at x k ≡ 1) × (at y k ≡ 1)) → not r ≡ apart n at x y
  apart_from x y true d = let w = d.0 refl in not-apart x y (λ h. omega (arith, h w.0 w.1, w.2, w.3))
  apart_from x y false d =
      is-apart x y (λ k l. ⊎_elim
      (λ (lt : 1 < at x k + at y k). absurd (false≢true (d.1 (k, l, omega (arith, one x k, one y k), omega (arith, one x k, one y k)))))
      (λ (le : at x k + at y k ≤ 1). le)
      (cases_lt 1 (at x k + at y k)))

  -- a number of x that is not in z, found or not
  pub covers_from : (z x : A) (r : Bool) → Decides r ((k : ℕ) × (k < n) × (at x k ≡ 1) × (at z k ≡ 0)) → not r ≡ covers n at z x
  covers_from z x true d = let w = d.0 refl in not-covers z x (λ h. omega (arith, h w.0 w.1, w.2, w.3))
  covers_from z x false d =
      is-covers z x (λ k l. ⊎_elim
      (λ (lt : at z k < at x k). absurd (false≢true (d.1 (k, l, omega (arith, one x k), omega (arith, one x k)))))
      (λ (le : at x k ≤ at z k). le)
      (cases_lt (at z k) (at x k)))
