-- The ways up where a bank is handed up to its parent: each without that bank. Assumes nothing.
use Rattle.std.proofs.Common.{◌≡◌, ℕ, suc, ◌≤◌, Bool, true, false, cond, not, eqb, List, [], ◌∷◌, length, Some, None, Option, sym, refl, ap, ◌∙◌, subst, subst₂, inl, inr, arith}
use Rattle.std.proofs.lemmas.Bool.{cases_eq, eq-eqb, ne_eqb, not_from_false}
use Rattle.tables.specs.Tables.{among}
use Rattle.rules.specs.Record.{Opened, kept, passed_to, adopted}
use Rattle.rules.proofs.Kept.{in_kept, kept_in}
use Rattle.rules.proofs.Serials.{among_same}
use Rattle.rules.proofs.Roads.{Road, road_same, road_cons}

pub length-kept : {X : Type 0} (p : X → Bool) (xs : List X) → length (kept p xs) ≤ length xs
length-kept p [] = omega arith
length-kept p (x ∷ xs) =
    let l = length-kept p xs in
    elim (p x) as (λ b. length (cond b (x ∷ kept p xs) (kept p xs)) ≤ suc (length xs)) [ true ↦ omega arith | false ↦ omega arith ]

module _ (d p : ℕ) where
  pub pass_stay : (b : ℕ) → (b ≡ d → ⊥) → passed_to d p b ≡ b
  pass_stay b h = rw (ne_eqb b d h)

  pub pass_move : (b : ℕ) → b ≡ d → passed_to d p b ≡ p
  pass_move b h = rw (eq-eqb b d h)

module _ (d : ℕ) where
  abbrev pub without : List ℕ → List ℕ
  without xs = kept (λ x. not (eqb x d)) xs

  without_keep : (x : ℕ) (xs : List ℕ) → (x ≡ d → ⊥) → without (x ∷ xs) ≡ x ∷ without xs
  without_keep x xs h = rw (ne_eqb x d h)

  without-drop : (x : ℕ) (xs : List ℕ) → x ≡ d → without (x ∷ xs) ≡ without xs
  without-drop x xs h = rw (eq-eqb x d h)

  pub among-without : (b : ℕ) (xs : List ℕ) → (b ≡ d → ⊥) → among b (without xs) ≡ among b xs
  among-without b xs h = among_same b (without xs) xs (λ i. (in_kept (λ x. not (eqb x d)) xs b i).0) (λ i. kept_in (λ x. not (eqb x d)) xs b i (not_from_false (eqb b d) (ne_eqb b d h)))

abbrev pub passed : {A : Type 0} → (ℕ → Option (Opened A)) → ℕ → ℕ → ℕ → Option (Opened A)
passed bank d p b = cond (eqb b d) None (adopted d p (bank b))

module _ {A : Type 0} (bank : ℕ → Option (Opened A)) (d : ℕ) (o : Opened A) (d-open : bank d ≡ Some o) (not_root : d ≡ 0 → ⊥) where
  same_opened : (b : ℕ) (o' : Opened A) → b ≡ d → bank b ≡ Some o' → o' ≡ o
  same_opened b o' h k = let l = sym k ∙ ap bank h ∙ d-open in cc

  pub open_passed : (b : ℕ) (o' : Opened A) → (b ≡ d → ⊥) → bank b ≡ Some o' → passed bank d o.parent b ≡ Some (record { parent = passed_to d o.parent o'.parent; limit = o'.limit })
  open_passed b o' h k = rw (ne_eqb b d h) (rw k refl)

  -- a bank is not its own parent
  pub parent-apart : (xs : List ℕ) → Road bank d xs → o.parent ≡ d → ⊥
  parent-apart [] r k = r
  parent-apart (x ∷ []) r k = not_root r.3
  parent-apart (x ∷ y ∷ ys) r k =
      let r' : Road bank d (y ∷ ys) = subst (λ n. Road bank n (y ∷ ys)) (ap (λ (t : Opened A). t.parent) (same_opened d r.0 refl r.2) ∙ k) r.4 in
      let z : suc (suc (length ys)) ≡ suc (length ys) = ap (λ (ns : List ℕ). length ns) (road_same bank d (x ∷ y ∷ ys) (y ∷ ys) r r') in
      omega arith

  pub road_passed : (o.parent ≡ d → ⊥) → (b : ℕ) (xs : List ℕ) → Road bank b xs → Road (passed bank d o.parent) (passed_to d o.parent b) (without d xs)
  road_passed apart b [] r = r
  road_passed apart b (x ∷ []) r =
      let stay : b ≡ d → ⊥ = (λ k. not_root (sym k ∙ r.3)) in
      subst₂ (λ n ns. Road (passed bank d o.parent) n ns) (sym (pass_stay d o.parent b stay)) (sym (without_keep d x [] (λ k. stay (sym r.1 ∙ k))))
      (record { parent = passed_to d o.parent r.0.parent; limit = r.0.limit }, r.1, open_passed b r.0 stay r.2, r.3)
  road_passed apart b (x ∷ y ∷ ys) r =
      let up = road_passed apart r.0.parent (y ∷ ys) r.4 in
      elim (cases_eq b d) [
        | inl k ↦ subst₂ (λ n ns. Road (passed bank d o.parent) n ns)
            (ap (λ (t : Opened A). passed_to d o.parent t.parent) (same_opened b r.0 k r.2) ∙ pass_stay d o.parent o.parent apart ∙ sym (pass_move d o.parent b k))
            (sym (without-drop d x (y ∷ ys) (r.1 ∙ k))) up
        | inr k ↦ subst₂ (λ n ns. Road (passed bank d o.parent) n ns)
            (sym (pass_stay d o.parent b k))
            (ap {B = List ℕ} (λ n. n ∷ without d (y ∷ ys)) (sym r.1) ∙ sym (without_keep d x (y ∷ ys) (λ m. k (sym r.1 ∙ m))))
            (road_cons (passed bank d o.parent) b (record { parent = passed_to d o.parent r.0.parent; limit = r.0.limit }) (without d (y ∷ ys)) (open_passed b r.0 k r.2) r.3 up)
      ]
