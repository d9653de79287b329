-- A whole chain has no row twice: the way from a row up to row 0 is the only one. Assumes nothing.
use Rattle.std.proofs.Common.{◌≡◌, ℕ, zero, suc, ◌≤◌, Bool, true, false, cond, eqb, List, [], ◌∷◌, length, Some, Option, sym, refl, ap, subst, arith}
use Rattle.std.proofs.lemmas.Bool.{eqb-true, eqb-false}
use Rattle.tables.specs.declared.rows.Bank.{Bank}
use Rattle.tables.specs.Tables.{under_it, bank_at, chain_in, chain}
use Rattle.tables.specs.Rows.{above}
use Rattle.rules.specs.Record.{Opened}
use Rattle.rules.specs.Law.{Distinct}
use Rattle.rules.proofs.Roads.{Road, road_same, road_from, road_cons}
use Rattle.rules.proofs.RowFacts.{seen, seen_live}
use Rattle.rules.proofs.Serials.{not-among}

road_once : {A : Type 0} (bank : ℕ → Option (Opened A)) (b : ℕ) (xs : List ℕ) → Road bank b xs → Distinct xs
road_once bank b [] r = absurd r
road_once bank b (x ∷ []) r = (refl, tt)
road_once bank b (x ∷ y ∷ ys) r = (
  not-among x (y ∷ ys) (λ i.
      let k = road_from bank r.0.parent (y ∷ ys) x r.4 i in
      let short : length k.0 ≤ suc (length ys) = k.3 in
      let same = road_same bank b (x ∷ y ∷ ys) k.0 r (subst (λ n. Road bank n k.0) r.1 k.1) in
      let long : suc (suc (length ys)) ≡ length k.0 = ap (λ (ns : List ℕ). length ns) same in
      omega arith),
  road_once bank r.0.parent (y ∷ ys) r.4,
)

once_above : (xs : List ℕ) → Distinct xs → Distinct (above xs)
once_above [] h = tt
once_above (x ∷ xs) h = h.1

module _ {A : Type 0} (none : A) (banks : List (Bank A)) where
  abbrev bank : ℕ → Option (Opened A)
  bank b = seen (bank_at none banks b)

  -- a chain that is whole is a way
  abbrev Whole : ℕ → List ℕ → Type 0
  Whole b [] = Unit {0}
  Whole b (x ∷ xs) = Road bank b (x ∷ xs)

  whole-under : (b : ℕ) (o : Opened A) (xs : List ℕ) → bank b ≡ Some o → (b ≡ 0 → ⊥) → Whole o.parent xs → Whole b (under_it b xs)
  whole-under b o [] h n w = tt
  whole-under b o (x ∷ xs) h n w = road_cons bank b o (x ∷ xs) h n w

  whole_cases : (b : ℕ) (xs : List ℕ) (l z : Bool) → (bank_at none banks b).live ≡ l → eqb b 0 ≡ z → Whole (bank_at none banks b).parent xs → Whole b (cond l (cond z (0 ∷ []) (under_it b xs)) [])
  whole_cases b xs false z el ez w = tt
  whole_cases b xs true true el ez w =
      (record { parent = (bank_at none banks b).parent; limit = (bank_at none banks b).limit }, sym (eqb-true b 0 ez), seen_live (bank_at none banks b) el, eqb-true b 0 ez)
  whole_cases b xs true false el ez w =
      whole-under b (record { parent = (bank_at none banks b).parent; limit = (bank_at none banks b).limit }) xs (seen_live (bank_at none banks b) el) (eqb-false b 0 ez) w

  whole_in : (n b : ℕ) → Whole b (chain_in none n banks b)
  whole_in zero b = tt
  whole_in (suc n) b = whole_cases b _ _ _ refl refl (whole_in n (bank_at none banks b).parent)

  once : (b : ℕ) (xs : List ℕ) → Whole b xs → Distinct xs
  once b [] w = tt
  once b (x ∷ xs) w = road_once bank b (x ∷ xs) w

  chain_once : (b : ℕ) → Distinct (chain none banks b)
  unfolding chain
  chain_once b = once b (chain_in none 16 banks b) (whole_in 16 b)

  pub rows_once : (b : ℕ) (rows : List ℕ) → rows ≡ chain none banks b → Distinct rows
  rows_once b rows e = rw e (chain_once b)

  pub above_once : (b : ℕ) (rows : List ℕ) → rows ≡ above (chain none banks b) → Distinct rows
  above_once b rows e = rw e (once_above _ (chain_once b))
