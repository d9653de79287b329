-- Lists of numbers: what is among them, and lists whose numbers climb. Assumes nothing.
use Rattle.std.proofs.Common.{◌≡◌, ℕ, ◌<◌, Bool, true, false, cond, eqb, ◌⊎◌, List, [], ◌∷◌, ◌++◌, map, sym, refl, ap, ◌∙◌, subst, inl, inr, arith}
use Rattle.std.proofs.lemmas.Bool.{both_ways, eqb-true, eq-eqb, or_cases, or_left, or_right, false≢true}
use Rattle.tables.specs.Tables.{among}
use Rattle.rules.specs.Record.{kept}
use Rattle.rules.specs.Law.{Distinct, Rising}
use Rattle.rules.proofs.Kept.{In, in_push, in_kept, in_map, kept_none}

pub among_in : (n : ℕ) (xs : List ℕ) → among n xs ≡ true → In n xs
among_in n [] h = false≢true h
among_in n (x ∷ xs) h = elim (or_cases (eqb n x) (among n xs) h) [ inl e ↦ inl (eqb-true n x e) | inr k ↦ inr (among_in n xs k) ]

pub in_among : (n : ℕ) (xs : List ℕ) → In n xs → among n xs ≡ true
in_among n [] h = absurd h
in_among n (x ∷ xs) (inl e) = or_left (eqb n x) (among n xs) (eq-eqb n x e)
in_among n (x ∷ xs) (inr h) = or_right (eqb n x) (among n xs) (in_among n xs h)

pub from_not : (t : Bool) → (t ≡ true → ⊥) → t ≡ false
from_not true h = absurd (h refl)
from_not false h = refl

pub not-among : (n : ℕ) (xs : List ℕ) → (In n xs → ⊥) → among n xs ≡ false
not-among n xs h = from_not (among n xs) (λ k. h (among_in n xs k))

-- a test that says whether n stands in xs says what `among` says
pub among_same : (n : ℕ) (xs ys : List ℕ) → (In n xs → In n ys) → (In n ys → In n xs) → among n xs ≡ among n ys
among_same n xs ys f g =
    (elim (among n ys) as (λ b. among n ys ≡ b → among n xs ≡ b) [
      | true ↦ λ e. in_among n xs (g (among_in n ys e))
      | false ↦ λ e. not-among n xs (λ k. both_ways (among n ys) e (in_among n ys (f k)))
    ]) refl

module _ {X : Type 0} (f : X → ℕ) where
  abbrev pub Climbing : List X → Type 0
  Climbing [] = Unit {0}
  Climbing (x ∷ xs) = ((y : X) → In y xs → f x < f y) × Climbing xs

  pub climb_kept : (p : X → Bool) (xs : List X) → Climbing xs → Climbing (kept p xs)
  climb_kept p [] h = tt
  climb_kept p (x ∷ xs) h =
      elim (p x) as (λ b. Climbing (cond b (x ∷ kept p xs) (kept p xs))) [
        | true ↦ (λ y k. h.0 y (in_kept p xs y k).0, climb_kept p xs h.1)
        | false ↦ climb_kept p xs h.1
      ]

  pub climb_push : (xs : List X) (x : X) → Climbing xs → ((y : X) → In y xs → f y < f x) → Climbing (xs ++ x ∷ [])
  climb_push [] x h k = (λ y n. absurd n, tt)
  climb_push (y ∷ ys) x h k =
      (λ z i. elim (in_push ys z x i) [ inl n ↦ h.0 z n | inr e ↦ subst (λ w. f y < f w) (sym e) (k y (inl refl)) ], climb_push ys x h.1 (λ z i. k z (inr i)))

  pub climb_map : (g : X → X) → ((x : X) → f (g x) ≡ f x) → (xs : List X) → Climbing xs → Climbing (map g xs)
  climb_map g e [] h = tt
  climb_map g e (x ∷ xs) h = (
    λ y i. let r = in_map g xs y i in
        let below = h.0 r.0 r.1.0 in
        rw (r.1.1, e x, e r.0) below,
    climb_map g e xs h.1,
  )

  pub climb_rising : (xs : List X) → Climbing xs → Rising (map f xs)
  climb_rising [] h = tt
  climb_rising (x ∷ []) h = tt
  climb_rising (x ∷ y ∷ ys) h = (h.0 y (inl refl), climb_rising (y ∷ ys) h.1)

  pub climb_distinct : (xs : List X) → Climbing xs → Distinct (map f xs)
  climb_distinct [] h = tt
  climb_distinct (x ∷ xs) h = (
    not-among (f x) (map f xs) (λ i. let r = in_map f xs (f x) i in
        let below = h.0 r.0 r.1.0 in
        let same = r.1.1 in
        omega arith),
    climb_distinct xs h.1,
  )

  pub climb_same : (xs : List X) (x y : X) → Climbing xs → In x xs → In y xs → f x ≡ f y → x ≡ y
  climb_same [] x y h i j e = absurd i
  climb_same (z ∷ zs) x y h (inl i) (inl j) e = i ∙ sym j
  climb_same (z ∷ zs) x y h (inl i) (inr j) e = let k = h.0 y j in let l = ap f i in let n : f x < f x = omega arith in absurd (omega arith)
  climb_same (z ∷ zs) x y h (inr i) (inl j) e = let k = h.0 x i in let l = ap f j in let n : f x < f x = omega arith in absurd (omega arith)
  climb_same (z ∷ zs) x y h (inr i) (inr j) e = climb_same zs x y h.1 i j e

  -- where a test picks x alone
  pub kept_sole : (p : X → Bool) (xs : List X) (x : X) → Climbing xs → In x xs → p x ≡ true → ((y : X) → In y xs → p y ≡ true → f y ≡ f x) → kept p xs ≡ x ∷ []
  kept_sole p [] x h i t u = absurd i
  kept_sole p (z ∷ zs) x h (inl i) t u =
      let pz : p z ≡ true = subst (λ w. p w ≡ true) i t in
      let others : (y : X) → In y zs → p y ≡ false = (λ y k. from_not (p y) (λ ty. let a = u y (inr k) ty in let b = h.0 y k in let c = ap f i in omega arith)) in
      rw pz (rw (kept_none p zs others) (ap {B = List X} (λ w. w ∷ []) (sym i)))
  kept_sole p (z ∷ zs) x h (inr i) t u =
      let pz : p z ≡ false = from_not (p z) (λ tz. let a = u z (inl refl) tz in let b = h.0 x i in omega arith) in
      rw pz (kept_sole p zs x h.1 i t (λ y k. u y (inr k)))

pub in_either : {X : Type 0} (xs ys : List X) (x : X) → In x (xs ++ ys) → In x xs ⊎ In x ys
in_either [] ys x i = inr i
in_either (z ∷ zs) ys x (inl e) = inl (inl e)
in_either (z ∷ zs) ys x (inr i) = elim (in_either zs ys x i) [ inl j ↦ inl (inr j) | inr j ↦ inr j ]

-- two lists with nothing in common, each with no number twice
pub distinct_both : (xs ys : List ℕ) → Distinct xs → Distinct ys → ((n : ℕ) → In n xs → In n ys → ⊥) → Distinct (xs ++ ys)
distinct_both [] ys h k apart = k
distinct_both (x ∷ xs) ys h k apart = (
  not-among x (xs ++ ys) (λ i. elim (in_either xs ys x i) [
    | inl j ↦ both_ways (among x xs) h.0 (in_among x xs j)
    | inr j ↦ apart x (inl refl) j
  ]),
  distinct_both xs ys h.1 k (λ n i j. apart n (inr i) j),
)
