-- Amounts that join: the join is one, and it splits along a test. Assumes nothing.
use Rattle.std.proofs.Common.{◌≡◌, Bool, true, false, cond, not, List, [], ◌∷◌, ◌++◌, map, sym, refl, ◌∙◌, subst}
use Rattle.kind.specs.Algebra.{Answers}
use Rattle.rules.specs.Record.{kept}
use Rattle.kind.specs.Joins.{JoinsOn}
use Rattle.rules.specs.Law.{Joins}
use Rattle.rules.proofs.Laws.{Laws}

-- w in two parts, what the one list comes to on top of s, and the other on top of t
pub record Parted {A : Type 0} (makes : A → A → A → Type 0) (s : A) (xs : List A) (t : A) (ys : List A) (w : A) : Type 0 where
  pub left : A
  pub right : A
  pub join-left : JoinsOn makes s xs left
  pub join_right : JoinsOn makes t ys right
  pub whole : makes left right w

module _ {A : Type 0} {makes : A → A → A → Type 0} {q : Answers A} (laws : Laws makes q) where
  pub joined_same : (xs : List A) (u w w' : A) → JoinsOn makes u xs w → JoinsOn makes u xs w' → w ≡ w'
  joined_same [] u w w' h k = sym h ∙ k
  joined_same (x ∷ xs) u w w' h k =
      let e = laws.functional u x k.0 h.0 k.1.0 h.1.0 in
      joined_same xs h.0 w w' h.1.1 (subst (λ v. JoinsOn makes v xs w') e k.1.1)

  pub joined-push : (xs : List A) (u v a w : A) → JoinsOn makes u xs v → makes v a w → JoinsOn makes u (xs ++ a ∷ []) w
  joined-push [] u v a w h m = (w, (subst (λ x. makes x a w) (sym h) m, refl))
  joined-push (x ∷ xs) u v a w h m = (h.0, (h.1.0, joined-push xs h.0 v a w h.1.1 m))

  module _ {X : Type 0} (f : X → A) (p : X → Bool) where
    parted_on : (xs : List X) (s t u w : A) → makes s t u → JoinsOn makes u (map f xs) w → Parted makes s (map f (kept p xs)) t (map f (kept (λ x. not (p x)) xs)) w
    parted_on [] s t u w m j = record { left = s; right = t; join-left = refl; join_right = refl; whole = subst (λ x. makes s t x) j m }
    parted_on (x ∷ xs) s t u w m j =
        elim (p x) as (λ b. Parted makes s (map f (cond b (x ∷ kept p xs) (kept p xs))) t (map f (cond (not b) (x ∷ kept (λ y. not (p y)) xs) (kept (λ y. not (p y)) xs))) w) [
          | true ↦
              let k = laws.associative t s (f x) u j.0 (laws.commutative s t u m) j.1.0 in
              let r = parted_on xs k.0 t j.0 w (laws.commutative t k.0 j.0 k.1.1) j.1.1 in
              record { left = r.left; right = r.right; join-left = (k.0, (k.1.0, r.join-left)); join_right = r.join_right; whole = r.whole }
          | false ↦
              let k = laws.associative s t (f x) u j.0 m j.1.0 in
              let r = parted_on xs s k.0 j.0 w k.1.1 j.1.1 in
              record { left = r.left; right = r.right; join-left = r.join-left; join_right = (k.0, (k.1.0, r.join_right)); whole = r.whole }
        ]

    pub parted : (xs : List X) (w : A) → Joins makes q (map f xs) w → Parted makes q.empty (map f (kept p xs)) q.empty (map f (kept (λ x. not (p x)) xs)) w
    parted xs w j = parted_on xs q.empty q.empty q.empty w (laws.neutral q.empty) j

    -- where the kept ones join to a, a is a part, and the others join to the rest
    pub taken : (xs : List X) (a w : A) → Joins makes q (map f xs) w → Joins makes q (map f (kept p xs)) a → (b : A) × (Joins makes q (map f (kept (λ x. not (p x)) xs)) b × makes a b w)
    taken xs a w j k =
        let r = parted xs w j in
        (r.right, (r.join_right, subst (λ x. makes x r.right w) (joined_same (map f (kept p xs)) q.empty r.left a r.join-left k) r.whole))
