-- A scan of a list for the first that passes a test: what the part scanned so far says.
use Rattle.std.proofs.Common.{◌≡◌, ℕ, ◌+◌, ◌<◌, ◌≤◌, Bool, true, false, cond, ◌||◌, List, [], ◌∷◌, length, get_or, drop, Some, None, Option, eqb, sym, refl, ap, ap₂, ◌∙◌, ⊎_elim, add-one}
use Rattle.std.specs.List.{AllByRecursion, list_any}
use Rattle.std.proofs.lemmas.List.{at_drop_more, at_drop_all, get_or_read}
use Rattle.std.proofs.ByRecursion.{All-get_or}
use Rattle.std.proofs.lemmas.Bool.{cond-true, cond-false, cases_eq, eq-eqb, ne_eqb}
use Rattle.tables.specs.declared.rows.Bank.{Bank}
use Rattle.tables.specs.Tables.{among, bank_at, free_bank}
use Rattle.tables.specs.Rows.{nearest, lowest}

-- the nearest of the rows xs whose bank passes the test, with the first i scanned; the next one reads as x
module _ {A : Type 0} (none : A) (test : Bank A → Bool) (banks : List (Bank A)) (xs : List ℕ) (i : ℕ)
    (so_far : nearest (λ b. test (bank_at none banks b)) xs ≡ nearest (λ b. test (bank_at none banks b)) (drop i xs)) where
  read : AllByRecursion (λ b. b < length banks) xs → i < length xs → (x : Bank A) (t : Bool) → x ≡ get_or banks (get_or xs i 0) x → t ≡ test x → test (bank_at none banks (get_or xs i 0)) ≡ t
  read all h x t is e = sym (e ∙ ap test (get_or_read banks (get_or xs i 0) x (All-get_or _ xs i 0 h all) is (free_bank none)))

  pub nearest_found : AllByRecursion (λ b. b < length banks) xs → i < length xs → (x : Bank A) → x ≡ get_or banks (get_or xs i 0) x → true ≡ test x → Some (get_or xs i 0) ≡ nearest (λ b. test (bank_at none banks b)) xs
  nearest_found all h x is e = sym (so_far ∙ at_drop_more (nearest _) xs i 0 h ∙ cond-true _ _ _ (read all h x true is e))

  pub nearest_more : AllByRecursion (λ b. b < length banks) xs → i < length xs → (x : Bank A) → x ≡ get_or banks (get_or xs i 0) x → false ≡ test x
      → nearest (λ b. test (bank_at none banks b)) xs ≡ nearest (λ b. test (bank_at none banks b)) (drop (i + 1) xs)
  nearest_more all h x is e = so_far ∙ at_drop_more (nearest _) xs i 0 h ∙ cond-false _ _ _ (read all h x false is e)

  pub nearest-end : length xs ≤ i → None ≡ nearest (λ b. test (bank_at none banks b)) xs
  nearest-end h = sym (so_far ∙ at_drop_all (nearest _) xs i h)

-- what was found along some rows, where they are those of xs
pub found_on : (test : ℕ → Bool) {rows xs : List ℕ} {r s : Option ℕ} → r ≡ nearest test rows → rows ≡ xs → r ≡ s → nearest test xs ≡ s
found_on test found are is = ap (nearest test) (sym are) ∙ sym found ∙ is

turned : (n m : ℕ) → eqb n m ≡ eqb m n
turned n m = ⊎_elim (λ (e : n ≡ m). eq-eqb n m e ∙ sym (eq-eqb m n (sym e))) (λ (ne : n ≡ m → ⊥). ne_eqb n m ne ∙ sym (ne_eqb m n (λ e. ne (sym e)))) (cases_eq n m)

-- a number is among those of a list if some number there is the same
pub any-among : (n : ℕ) (xs : List ℕ) → list_any (λ x. eqb x n) xs ≡ among n xs
any-among n [] = refl
any-among n (x ∷ xs) = ap₂ (λ a b. a || b) (turned x n) (any-among n xs)

-- the lowest row that passes the test, with the rows below i scanned; d is any row
module _ {X : Type 0} (f : ℕ → X → Bool) (xs : List X) (i : ℕ) (so_far : lowest f 0 xs ≡ lowest f i (drop i xs)) where
  lowest-at : (d : X) → i < length xs → lowest f 0 xs ≡ cond (f i (get_or xs i d)) (Some i) (lowest f (i + 1) (drop (i + 1) xs))
  lowest-at d h = so_far ∙ at_drop_more (lowest f i) xs i d h ∙ ap (λ (n : ℕ). cond (f i (get_or xs i d)) (Some i) (lowest f n (drop (i + 1) xs))) (sym (add-one i))

  pub lowest_found : (d : X) → i < length xs → f i (get_or xs i d) ≡ true → Some i ≡ lowest f 0 xs
  lowest_found d h e = sym (lowest-at d h ∙ cond-true _ _ _ e)

  pub lowest_more : (d : X) → i < length xs → f i (get_or xs i d) ≡ false → lowest f 0 xs ≡ lowest f (i + 1) (drop (i + 1) xs)
  lowest_more d h e = lowest-at d h ∙ cond-false _ _ _ e

  pub lowest-end : length xs ≤ i → None ≡ lowest f 0 xs
  lowest-end h = sym (so_far ∙ at_drop_all (lowest f i) xs i h)
