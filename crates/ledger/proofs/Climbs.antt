-- The climb from a row up its chain.
use Rattle.std.proofs.Common.{◌≡◌, ℕ, zero, suc, ◌+◌, ◌-◌, ◌<◌, ◌≤◌, Bool, true, false, cond, eqb, List, [], ◌∷◌, ◌++◌, length, Some, None, Option, unwrap_or, sym, refl, ap, ◌∙◌, subst, ⊎_elim, arith, length-append}
use Rattle.std.specs.List.{AllByRecursion}
use Rattle.lists.specs.Listed.{listed}
use Rattle.lists.specs.declared.list.FixedList.{FixedList}
use Rattle.std.proofs.lemmas.List.{get_or_past}
use Rattle.std.proofs.lemmas.Bool.{cond-false, ne_eqb, eqb-true, both_ways, cases_lt}
use Rattle.tables.specs.declared.rows.Bank.{Bank}
use Rattle.tables.specs.Rows.{above}
use Rattle.ledger.specs.Posts.{Climbed}
use Rattle.tables.specs.Tables.{among, is_none, under_it, free_bank, bank_at, chain_in, chain, lost, under}

-- the rows bs in front of a chain, where that is whole
abbrev pub under_all : List ℕ → List ℕ → List ℕ
under_all [] ys = ys
under_all (b ∷ bs) ys = under_it b (under_all bs ys)

under-push : (bs : List ℕ) (b : ℕ) (ys : List ℕ) → under_all (bs ++ b ∷ []) ys ≡ under_all bs (under_it b ys)
under-push [] b ys = refl
under-push (x ∷ bs) b ys = ap (under_it x) (under-push bs b ys)

under-nothing : (bs : List ℕ) → under_all bs [] ≡ []
under-nothing [] = refl
under-nothing (b ∷ bs) = ap (under_it b) (under-nothing bs)

under_it-push : (b : ℕ) (bs : List ℕ) (x : ℕ) → under_it b (bs ++ x ∷ []) ≡ b ∷ (bs ++ x ∷ [])
under_it-push b [] x = refl
under_it-push b (y ∷ bs) x = refl

under_root : (bs : List ℕ) (x : ℕ) → under_all bs (x ∷ []) ≡ bs ++ x ∷ []
under_root [] x = refl
under_root (b ∷ bs) x = ap (under_it b) (under_root bs x) ∙ under_it-push b bs x

pub no_chain : (xs : List ℕ) → xs ≡ [] → is_none xs ≡ true
no_chain xs e = rw e refl

pub a_chain : (xs : List ℕ) → (xs ≡ [] → ⊥) → is_none xs ≡ false
a_chain [] ne = absurd (ne refl)
a_chain (x ∷ xs) ne = refl

-- a chain that ends in a row is one
ends_in : (rows : List ℕ) (row : ℕ) → rows ++ row ∷ [] ≡ [] → ⊥
ends_in [] row e = cc
ends_in (x ∷ rows) row e = cc

-- the rows of a climb, none where it failed
pub climbed_rows : {rows : List ℕ} (r : Option (FixedList ℕ 16)) (none : FixedList ℕ 16) → listed none ≡ [] → Climbed rows r → listed (unwrap_or r none) ≡ rows
climbed_rows None none is-none lost = is-none ∙ sym lost
climbed_rows (Some c) none is-none is = is.0

all_above : (P : ℕ → Type 0) (xs : List ℕ) → AllByRecursion P xs → AllByRecursion P (above xs)
all_above P [] h = tt
all_above P (x ∷ xs) h = h.1

module _ {A : Type 0} (none : A) (banks : List (Bank A)) where
  stop : (n b : ℕ) → (bank_at none banks b).live ≡ false → chain_in none n banks b ≡ []
  stop zero b e = refl
  stop (suc n) b e = ap (λ l. cond l (cond (eqb b 0) (0 ∷ []) (under_it b (chain_in none n banks (bank_at none banks b).parent))) []) e

  step : (n b : ℕ) → (bank_at none banks b).live ≡ true → chain_in none (suc n) banks b ≡ cond (eqb b 0) (0 ∷ []) (under_it b (chain_in none n banks (bank_at none banks b).parent))
  step n b e = ap (λ l. cond l (cond (eqb b 0) (0 ∷ []) (under_it b (chain_in none n banks (bank_at none banks b).parent))) []) e

  -- the chain of b begins with these rows, and the climb goes on from row
  pub record Climb (b row : ℕ) (rows : List ℕ) : Type 0 where
    pub so_far : chain none banks b ≡ under_all rows (chain_in none (16 - length rows) banks row)

  pub climb_starts : (b : ℕ) → Climb b b []
  unfolding chain
  climb_starts b = record { so_far = refl }

  pub climb_fails : {b row : ℕ} {rows : List ℕ} → Climb b row rows → (bank_at none banks row).live ≡ false → chain none banks b ≡ []
  climb_fails {b} {row} {rows} c e = c.so_far ∙ ap (under_all rows) (stop (16 - length rows) row e) ∙ under-nothing rows

  module _ {b row : ℕ} {rows : List ℕ} (c : Climb b row rows) (room : length rows < 16) (live : (bank_at none banks row).live ≡ true) where
    abbrev left : ℕ
    left = 16 - (length rows + 1)

    next : chain none banks b ≡ under_all rows (cond (eqb row 0) (0 ∷ []) (under_it row (chain_in none left banks (bank_at none banks row).parent)))
    next =
        let one_less : 16 - length rows ≡ suc left = omega arith in
        c.so_far ∙ ap (λ (n : ℕ). under_all rows (chain_in none n banks row)) one_less ∙ ap (under_all rows) (step left row live)

    pub climb_tops : row ≡ 0 → rows ++ row ∷ [] ≡ chain none banks b
    climb_tops e = sym (next ∙ ap (λ (z : ℕ). under_all rows (cond (eqb z 0) (0 ∷ []) (under_it z (chain_in none left banks (bank_at none banks z).parent)))) e ∙ under_root rows 0 ∙ ap (λ (z : ℕ). rows ++ z ∷ []) (sym e))

    pub climb_whole : row ≡ 0 → chain none banks b ≡ [] → ⊥
    climb_whole e none = ends_in rows row (climb_tops e ∙ none)

    pub climb_on : (p : ℕ) → (row ≡ 0 → ⊥) → p ≡ (bank_at none banks row).parent → Climb b p (rows ++ row ∷ [])
    climb_on p ne e = record {
      so_far =
          next ∙ ap (under_all rows) (cond-false (eqb row 0) (0 ∷ []) _ (ne_eqb row 0 ne) ∙ ap (λ (z : ℕ). under_it row (chain_in none left banks z)) (sym e))
          ∙ sym (under-push rows row _) ∙ ap (λ (n : ℕ). under_all (rows ++ row ∷ []) (chain_in none (16 - n) banks p)) (sym (length-append rows (row ∷ [])));
    }

  -- a bank that is not live has no chain
  pub free_lost : (b : ℕ) → (bank_at none banks b).live ≡ false → lost none banks b ≡ true
  unfolding chain
  free_lost b e = ap is_none (stop 16 b e)

  -- the rows of a chain stand in the table
  pub live_within : (b : ℕ) → (bank_at none banks b).live ≡ true → b < length banks
  live_within b e = ⊎_elim (λ h. h) (λ h. absurd (both_ways (bank_at none banks b).live (ap (λ (r : Bank A). r.live) (get_or_past banks b (free_bank none) h)) e)) (cases_lt b (length banks))

  within-under : (b : ℕ) (xs : List ℕ) → b < length banks → AllByRecursion (λ x. x < length banks) xs → AllByRecursion (λ x. x < length banks) (under_it b xs)
  within-under b [] h a = tt
  within-under b (x ∷ xs) h a = (h, a)

  within_cases : (b : ℕ) (xs : List ℕ) (l z : Bool) → (bank_at none banks b).live ≡ l → eqb b 0 ≡ z → AllByRecursion (λ x. x < length banks) xs → AllByRecursion (λ x. x < length banks) (cond l (cond z (0 ∷ []) (under_it b xs)) [])
  within_cases b xs false z el ez a = tt
  within_cases b xs true true el ez a = (subst (λ x. x < length banks) (eqb-true b 0 ez) (live_within b el), tt)
  within_cases b xs true false el ez a = within-under b xs (live_within b el) a

  within_in : (n b : ℕ) → AllByRecursion (λ x. x < length banks) (chain_in none n banks b)
  within_in zero b = tt
  within_in (suc n) b = within_cases b _ _ _ refl refl (within_in n (bank_at none banks b).parent)

  pub chain-within : (b : ℕ) → AllByRecursion (λ x. x < length banks) (chain none banks b)
  unfolding chain
  chain-within b = within_in 16 b

  pub rows_within : (b : ℕ) (rows : List ℕ) → rows ≡ chain none banks b → AllByRecursion (λ x. x < length banks) rows
  rows_within b rows e = subst (AllByRecursion (λ x. x < length banks)) (sym e) (chain-within b)

  pub above_within : (b : ℕ) (rows : List ℕ) → rows ≡ above (chain none banks b) → AllByRecursion (λ x. x < length banks) rows
  above_within b rows e = subst (AllByRecursion (λ x. x < length banks)) (sym e) (all_above _ _ (chain-within b))

  -- no chain starts past the table
  pub under_past : (d b : ℕ) → length banks ≤ b → under none banks d b ≡ false
  unfolding chain
  under_past d b h = ap (among d) (stop 16 b (ap (λ (r : Bank A). r.live) (get_or_past banks b (free_bank none) h)))
