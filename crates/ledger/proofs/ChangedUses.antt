-- A walk up a chain that changes the use of each bank on it.
use Rattle.std.proofs.Common.{◌≡◌, ℕ, zero, suc, ◌+◌, ◌<◌, ◌≤◌, Bool, true, false, cond, ◌||◌, eqb, List, [], ◌∷◌, ◌++◌, length, get_or, take, set, sym, refl, ap, ◌∙◌, subst, ap₂, ⊎_elim, arith}
use Rattle.std.specs.List.{AllByRecursion}
use Rattle.std.proofs.lemmas.List.{get_or_default, get_or-set_same, get_or-set_other, length-set, take_more, take_all, ext_get_or}
use Rattle.std.proofs.ByRecursion.{All-get_or}
use Rattle.std.proofs.lemmas.Bool.{cond-true, cond-false, cases_eq, eq-eqb, ne_eqb, or_left, or_right, true≢false}
use Rattle.kind.specs.Algebra.{Answers}
use Rattle.tables.specs.declared.rows.Bank.{Bank}
use Rattle.tables.specs.Tables.{among}
use Rattle.tables.specs.Rows.{change_use, change_uses, each_at}
use Rattle.rules.specs.Law.{Distinct}
use Rattle.rules.proofs.RowFacts.{length_changed, getD_each_at}

among-push : (n : ℕ) (xs : List ℕ) (x : ℕ) → among n (xs ++ x ∷ []) ≡ (among n xs || eqb n x)
among-push n [] x = elim (eqb n x) as (λ b. (b || false) ≡ b) [ true ↦ refl | false ↦ refl ]
among-push n (y ∷ ys) x = elim (eqb n y) as (λ b. (b || among n (ys ++ x ∷ [])) ≡ ((b || among n ys) || eqb n x)) [ true ↦ refl | false ↦ among-push n ys x ]

among-at : (rows : List ℕ) (i : ℕ) → i < length rows → among (get_or rows i 0) rows ≡ true
among-at [] i l = absurd (omega arith)
among-at (x ∷ xs) zero l = or_left (eqb x x) (among x xs) (eq-eqb x x refl)
among-at (x ∷ xs) (suc i) l = or_right (eqb (get_or xs i 0) x) (among (get_or xs i 0) xs) (among-at xs i (omega arith))

-- a number of a list that has none twice is not among those before it
not_before : (rows : List ℕ) (i : ℕ) → Distinct rows → i < length rows → among (get_or rows i 0) (take i rows) ≡ false
not_before [] i h l = absurd (omega arith)
not_before (x ∷ xs) zero h l = refl
not_before (x ∷ xs) (suc i) h l =
    let apart : eqb (get_or xs i 0) x ≡ false = ne_eqb (get_or xs i 0) x (λ e. true≢false (sym (among-at xs i (omega arith)) ∙ ap (λ n. among n xs) e ∙ h.0)) in
    rw apart (not_before xs i h.1 (omega arith))

or_off : (t u : Bool) → u ≡ false → (t || u) ≡ t
or_off true u e = refl
or_off false u e = e

module _ {A : Type 0} (q : Answers A) (f : A → A) (xs : List (Bank A)) where
  pub uses_start : xs ≡ change_uses q f [] xs
  uses_start = go 0 xs
    where
      go : (j : ℕ) (ys : List (Bank A)) → ys ≡ each_at (change_use q f []) j ys
      go j [] = refl
      go j (y ∷ ys) = ap {B = List (Bank A)} (λ zs. y ∷ zs) (go (suc j) ys)

  abbrev pub changed : Bank A → Bank A
  changed row = record { live = row.live; parent = row.parent; limit = row.limit; used = f row.used }

  -- the first i of the rows are changed
  module _ (rows : List ℕ) (i : ℕ) (ys : List (Bank A)) (so_far : ys ≡ change_uses q f (take i rows) xs) where
    pub uses_end : length rows ≤ i → ys ≡ change_uses q f rows xs
    uses_end h = so_far ∙ ap (λ (on : List ℕ). change_uses q f on xs) (take_all i rows h)

    long : length ys ≡ length xs
    long = ap length so_far ∙ length_changed q f (take i rows) xs

    module _ (within : AllByRecursion (λ x. x < length xs) rows) (l : i < length rows) where
      abbrev b : ℕ
      b = get_or rows i 0

      pub in_table : b < length xs
      in_table = All-get_or _ rows i 0 l within

      pub in_reach : b < length ys
      in_reach = subst (λ n. b < n) (sym long) in_table

      more : (k : ℕ) → among k (take (i + 1) rows) ≡ (among k (take i rows) || eqb k b)
      more k = ap (among k) (take_more rows i 0 l) ∙ among-push k (take i rows) b

      -- the next row reads as x, and is written with the use u
      module _ (once : Distinct rows) (x : Bank A) (u : A) (is : x ≡ get_or ys b x) (made : u ≡ f x.used) where
        abbrev with_use : A → Bank A
        with_use v = record { live = x.live; parent = x.parent; limit = x.limit; used = v }

        abbrev after : List (Bank A)
        after = change_uses q f (take (i + 1) rows) xs

        as_it_was : x ≡ get_or xs b x
        as_it_was = is ∙ ap (λ zs. get_or zs b x) so_far ∙ getD_each_at (change_use q f (take i rows)) xs b x in_table ∙ cond-false _ _ _ (not_before rows i once l)

        here : get_or (set ys b (with_use u)) b x ≡ get_or after b x
        here =
            get_or-set_same ys b (with_use u) x in_reach ∙ ap with_use made ∙ ap changed as_it_was
            ∙ sym (getD_each_at (change_use q f (take (i + 1) rows)) xs b x in_table ∙ cond-true _ _ _ (more b ∙ or_right _ _ (eq-eqb b b refl)))

        there : (k : ℕ) → (k ≡ b → ⊥) → k < length xs → get_or (set ys b (with_use u)) k x ≡ get_or after k x
        there k ne h =
            get_or-set_other ys b k (with_use u) x ne ∙ ap (λ zs. get_or zs k x) so_far ∙ getD_each_at (change_use q f (take i rows)) xs k x h
            ∙ ap (λ t. cond t (changed (get_or xs k x)) (get_or xs k x)) (sym (more k ∙ or_off _ _ (ne_eqb k b ne)))
            ∙ sym (getD_each_at (change_use q f (take (i + 1) rows)) xs k x h)

        put_use : set ys b (with_use u) ≡ after
        put_use =
            ext_get_or x (set ys b (with_use u)) after (length-set ys b (with_use u) ∙ long ∙ sym (length_changed q f (take (i + 1) rows) xs)) (λ k h.
            ⊎_elim
            (λ (e : k ≡ b). subst (λ n. get_or (set ys b (with_use u)) n x ≡ get_or after n x) (sym e) here)
            (λ (ne : k ≡ b → ⊥). there k ne (subst (λ n. k < n) (length-set ys b (with_use u) ∙ long) h))
            (cases_eq k b))

      -- the next row is written with the use u, its parts read one by one; k, l, m and n are any rows
      pub uses_more : Distinct rows → (k l m n : Bank A) (u : A) → u ≡ f (get_or ys b k).used
          → set ys b (record { live = (get_or ys b l).live; parent = (get_or ys b m).parent; limit = (get_or ys b n).limit; used = u }) ≡ change_uses q f (take (i + 1) rows) xs
      uses_more once k l m n u made =
          let same : (x y : Bank A) → get_or ys b x ≡ get_or ys b y = λ x y. get_or_default ys b x y in_reach in
          let row = get_or ys b l in
          ap₂ (λ (p r : Bank A). set ys b (record { live = row.live; parent = p.parent; limit = r.limit; used = u })) (same m l) (same n l)
          ∙ put_use once row u (same l row) (made ∙ ap (λ (r : Bank A). f r.used) (same k l))
