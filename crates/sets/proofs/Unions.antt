-- The laws of disjoint unions, for any sets of numbers below n.
use Rattle.std.proofs.Common.{◌≡◌, ℕ, ◌+◌, ◌-◌, ◌<◌, ◌≤◌, min, Bool, true, leb, Decides, sym, refl, ap, ◌∙◌, subst, arith}
use Rattle.std.proofs.lemmas.Bool.{leb-true, le-leb, cond-true, cond-false}
use Rattle.std.proofs.lemmas.Bool.Decides.{Decides-below_and}
use Rattle.kind.specs.Algebra.{Functional, Commutative, Associative, Neutral, Cancellative, Positive, TellsFit, GivesJoin, TellsPart, GivesRemainder, TellsEmpty}
use Rattle.sets.specs.Members.{all_below, DisjointUnion, apart, covers, set_answers}
use Rattle.kind.proofs.Decisions.{pick}

-- a test at each number decides what it tests of each
pub all_decides : (n : ℕ) (p : ℕ → Bool) (P : ℕ → Type 0) → ((k : ℕ) → Decides (p k) (P k)) → Decides (all_below n p) ((k : ℕ) → k < n → P k)
unfolding all_below
all_decides n p P each = Decides-below_and p P (λ m. all_below m p) each refl (λ _. refl) n

pub all_leb : (n : ℕ) (f g : ℕ → ℕ) → Decides (all_below n (λ k. leb (f k) (g k))) ((k : ℕ) → k < n → f k ≤ g k)
all_leb n f g = all_decides n (λ k. leb (f k) (g k)) (λ k. f k ≤ g k) (λ k. (leb-true (f k) (g k), le-leb (f k) (g k)))

-- what a kind of sets shows of itself: a number is in a set once or not at all, sets of the same numbers are equal, and `of` makes them
pub record Sets {A : Type 0} (n : ℕ) (at : A → ℕ → ℕ) (of : (ℕ → ℕ) → A) : Type 0 where
  pub one : (x : A) (k : ℕ) → at x k ≤ 1
  pub same : (x y : A) → ((k : ℕ) → k < n → at x k ≡ at y k) → x ≡ y
  pub made : (f : ℕ → ℕ) (k : ℕ) → k < n → at (of f) k ≡ min (f k) 1

module _ {A : Type 0} {n : ℕ} {at : A → ℕ → ℕ} {of : (ℕ → ℕ) → A} (sets : Sets n at of) where
  open sets use {one, same, made}

  pub functional : Functional (DisjointUnion n at)
  functional x y z z' p q = same z z' (λ k h. sym (p k h) ∙ q k h)

  pub commutative : Commutative (DisjointUnion n at)
  commutative x y z p = λ k h. omega (arith, p k h)

  pub associative : Associative (DisjointUnion n at)
  associative x y z u w p q =
      let f : ℕ → ℕ = λ k. at y k + at z k in (
        of f,
        (
          λ k h. omega (arith, made f k h, p k h, q k h, one w k),
          λ k h. omega (arith, made f k h, p k h, q k h, one w k),
        ),
      )

  pub neutral : Neutral (DisjointUnion n at) (of (λ _. 0))
  neutral x = λ k h. omega (arith, made (λ _. 0) k h)

  pub cancellative : Cancellative (DisjointUnion n at)
  cancellative x y y' z p q = same y y' (λ k h. omega (arith, p k h, q k h))

  pub positive : Positive (DisjointUnion n at) (of (λ _. 0))
  positive x y p = (
    same x _ (λ k h. omega (arith, p k h, made (λ _. 0) k h)),
    same y _ (λ k h. omega (arith, p k h, made (λ _. 0) k h)),
  )

  -- ---- the answers

  union_made : (x y : A) → apart n at x y ≡ true → DisjointUnion n at x y (of (λ k. at x k + at y k))
  union_made x y e =
      let f : ℕ → ℕ = λ k. at x k + at y k in
      λ k h. omega (arith, made f k h, (all_leb n f (λ _. 1)).0 e k h)

  remainder_made : (z x : A) → covers n at z x ≡ true → DisjointUnion n at x (of (λ k. at z k - at x k)) z
  remainder_made z x e =
      let f : ℕ → ℕ = λ k. at z k - at x k in
      λ k h. omega (arith, made f k h, (all_leb n (at x) (at z)).0 e k h, one z k)

  pub tells_fit : TellsFit (DisjointUnion n at) (set_answers n at of)
  tells_fit x y = (
    λ e. (of (λ k. at x k + at y k), union_made x y e),
    λ p. (all_leb n (λ k. at x k + at y k) (λ _. 1)).1 (λ k h. omega (arith, p.1 k h, one p.0 k)),
  )

  pub gives_join : GivesJoin (DisjointUnion n at) (set_answers n at of)
  gives_join x y =
      pick (apart n at x y) _ _
      (λ e. subst (DisjointUnion n at x y) (sym (cond-true _ _ _ e)) (union_made x y e))
      (λ e. cond-false _ _ _ e)

  pub tells_part : TellsPart (DisjointUnion n at) (set_answers n at of)
  tells_part z x = (
    λ e. (of (λ k. at z k - at x k), remainder_made z x e),
    λ p. (all_leb n (at x) (at z)).1 (λ k h. omega (arith, p.1 k h)),
  )

  pub gives_remainder : GivesRemainder (DisjointUnion n at) (set_answers n at of)
  gives_remainder z x =
      pick (covers n at z x) _ _
      (λ e. subst (λ y. DisjointUnion n at x y z) (sym (cond-true _ _ _ e)) (remainder_made z x e))
      (λ e. cond-false _ _ _ e)

  pub tells_empty : TellsEmpty (set_answers n at of)
  tells_empty x = (
    λ e. same x _ (λ k h. omega (arith, made (λ _. 0) k h, (all_leb n (at x) (λ _. 0)).0 e k h)),
    λ e. (all_leb n (at x) (λ _. 0)).1 (λ k h. omega (arith, ap (λ y. at y k) e, made (λ _. 0) k h)),
  )
