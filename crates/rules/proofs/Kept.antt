-- Lists: what stands in one, and what a test keeps of one. Assumes nothing.
use Rattle.std.proofs.Common.{◌≡◌, Bool, true, false, cond, ◌⊎◌, List, [], ◌∷◌, ◌++◌, map, sym, refl, ap, ◌∙◌, subst, inl, inr}
use Rattle.std.proofs.lemmas.Bool.{both_ways}
use Rattle.rules.specs.Record.{kept}

abbrev pub In : {X : Type 0} → X → List X → Type 0
In x [] = ⊥
In x (y ∷ ys) = (x ≡ y) ⊎ In x ys

module _ {X : Type 0} where
  pub in_push : (xs : List X) (x y : X) → In x (xs ++ y ∷ []) → In x xs ⊎ (x ≡ y)
  in_push [] x y (inl e) = inr e
  in_push [] x y (inr h) = absurd h
  in_push (z ∷ zs) x y (inl e) = inl (inl e)
  in_push (z ∷ zs) x y (inr h) = elim (in_push zs x y h) [ inl k ↦ inl (inr k) | inr e ↦ inr e ]

  pub push_in : (xs : List X) (x y : X) → In x xs → In x (xs ++ y ∷ [])
  push_in [] x y h = absurd h
  push_in (z ∷ zs) x y (inl e) = inl e
  push_in (z ∷ zs) x y (inr h) = inr (push_in zs x y h)

  pub push-last : (xs : List X) (y : X) → In y (xs ++ y ∷ [])
  push-last [] y = inl refl
  push-last (z ∷ zs) y = inr (push-last zs y)

  module _ (p : X → Bool) where
    pub in_kept : (xs : List X) (x : X) → In x (kept p xs) → In x xs × (p x ≡ true)
    in_kept [] x h = absurd h
    in_kept (y ∷ ys) x h =
        (elim (p y) as (λ b. p y ≡ b → In x (cond b (y ∷ kept p ys) (kept p ys)) → In x (y ∷ ys) × (p x ≡ true)) [
          | true ↦ λ e. elim [ inl k ↦ (inl k, subst (λ z. p z ≡ true) (sym k) e) | inr k ↦ (inr (in_kept ys x k).0, (in_kept ys x k).1) ]
          | false ↦ λ e k. (inr (in_kept ys x k).0, (in_kept ys x k).1)
        ]) refl h

    pub kept_in : (xs : List X) (x : X) → In x xs → p x ≡ true → In x (kept p xs)
    kept_in [] x h t = h
    kept_in (y ∷ ys) x h t =
        (elim (p y) as (λ b. p y ≡ b → In x (cond b (y ∷ kept p ys) (kept p ys))) [
          | true ↦ λ e. elim h [ inl k ↦ inl k | inr k ↦ inr (kept_in ys x k t) ]
          | false ↦ λ e. elim h [ inl k ↦ absurd (both_ways (p y) e (subst (λ z. p z ≡ true) k t)) | inr k ↦ kept_in ys x k t ]
        ]) refl

    pub kept_none : (xs : List X) → ((x : X) → In x xs → p x ≡ false) → kept p xs ≡ []
    kept_none [] h = refl
    kept_none (x ∷ xs) h = rw (h x (inl refl)) (kept_none xs (λ y k. h y (inr k)))

    pub kept_all : (xs : List X) → ((x : X) → In x xs → p x ≡ true) → kept p xs ≡ xs
    kept_all [] h = refl
    kept_all (x ∷ xs) h = rw (h x (inl refl)) (ap {B = List X} (λ r. x ∷ r) (kept_all xs (λ y k. h y (inr k))))

    pub kept_push : (xs : List X) (x : X) → kept p (xs ++ x ∷ []) ≡ kept p xs ++ cond (p x) (x ∷ []) []
    kept_push [] x = refl
    kept_push (y ∷ ys) x =
        elim (p y) as (λ b. cond b (y ∷ kept p (ys ++ x ∷ [])) (kept p (ys ++ x ∷ [])) ≡ cond b (y ∷ kept p ys) (kept p ys) ++ cond (p x) (x ∷ []) []) [
          | true ↦ ap {B = List X} (λ r. y ∷ r) (kept_push ys x)
          | false ↦ kept_push ys x
        ]

  module _ (p q : X → Bool) where
    pub kept_agree : (xs : List X) → ((x : X) → In x xs → p x ≡ q x) → kept p xs ≡ kept q xs
    kept_agree [] h = refl
    kept_agree (x ∷ xs) h =
        rw (h x (inl refl)) (ap {B = List X} (λ r. cond (q x) (x ∷ r) r) (kept_agree xs (λ y k. h y (inr k))))

    pub kept_swap : (xs : List X) → kept p (kept q xs) ≡ kept q (kept p xs)
    kept_swap [] = refl
    kept_swap (x ∷ xs) =
        (elim (p x) as (λ b. p x ≡ b → kept p (cond (q x) (x ∷ kept q xs) (kept q xs)) ≡ kept q (cond b (x ∷ kept p xs) (kept p xs))) [
          | true ↦ λ e. elim (q x) as (λ c. kept p (cond c (x ∷ kept q xs) (kept q xs)) ≡ cond c (x ∷ kept q (kept p xs)) (kept q (kept p xs))) [
            | true ↦ rw e (ap {B = List X} (λ r. x ∷ r) (kept_swap xs))
            | false ↦ kept_swap xs
          ]
          | false ↦ λ e. elim (q x) as (λ c. kept p (cond c (x ∷ kept q xs) (kept q xs)) ≡ kept q (kept p xs)) [
            | true ↦ rw e (kept_swap xs)
            | false ↦ kept_swap xs
          ]
        ]) refl

    -- what the second test keeps anyway
    pub kept-within : (xs : List X) → ((x : X) → In x xs → p x ≡ true → q x ≡ true) → kept p (kept q xs) ≡ kept p xs
    kept-within xs h = kept_swap xs ∙ kept_all q (kept p xs) (λ x k. let r = in_kept p xs x k in h x r.0 r.1)

module _ {X Y : Type 0} (f : X → Y) where
  pub in_map : (xs : List X) (y : Y) → In y (map f xs) → (x : X) × (In x xs × (y ≡ f x))
  in_map [] y h = absurd h
  in_map (x ∷ xs) y (inl e) = (x, (inl refl, e))
  in_map (x ∷ xs) y (inr h) = let r = in_map xs y h in (r.0, (inr r.1.0, r.1.1))

  pub map_in : (xs : List X) (x : X) → In x xs → In (f x) (map f xs)
  map_in [] x h = h
  map_in (y ∷ ys) x (inl e) = inl (ap f e)
  map_in (y ∷ ys) x (inr h) = inr (map_in ys x h)

  pub kept_map : (p : Y → Bool) (xs : List X) → kept p (map f xs) ≡ map f (kept (λ x. p (f x)) xs)
  kept_map p [] = refl
  kept_map p (x ∷ xs) =
      elim (p (f x)) as (λ b. cond b (f x ∷ kept p (map f xs)) (kept p (map f xs)) ≡ map f (cond b (x ∷ kept (λ y. p (f y)) xs) (kept (λ y. p (f y)) xs))) [
        | true ↦ ap {B = List Y} (λ r. f x ∷ r) (kept_map p xs)
        | false ↦ kept_map p xs
      ]
