-- Runs place by place: the rules of their order, and the numbers they cover.
use Rattle.std.proofs.Common.{◌≡◌, ℕ, zero, suc, ◌<◌, ◌≤◌, max, true, false, eqb, ltb, leb, List, [], ◌∷◌, length, sym, refl, ◌∙◌, ⊎_elim, arith}
use Rattle.std.proofs.lemmas.Bool.{and_parts, and_from, cases_Bool, cases_eq, cond-true, cond-false, eqb-true, eq-eqb, leb-true, le-leb, ltb-true, lt-ltb}
use Rattle.sets.specs.Ends.{place}
use Rattle.sets.specs.Runs.{is_blank, within, covered, all_blank, ordered, tidy}
use Rattle.sets.specs.declared.run.Run.{Run}

-- of a place r and the next place s: r ends by n; it is unused or has a number; and where s is used, r is too, and ends below where s begins
abbrev pub Neat : ℕ → Run → Run → Type 0
Neat n r s =
    (r.to ≤ n) × ((r.from ≤ r.to) × ((0 < r.to → r.from < r.to) × (0 < s.to → (0 < r.to) × (r.to < s.from))))

abbrev pub AllNeat : ℕ → List Run → Type 0
AllNeat n rs = (p : ℕ) → Neat n (place rs p) (place rs (suc p))

-- `tidy`, place by place
abbrev pub Tidy : ℕ → ℕ → List Run → Type 0
Tidy n m rs = (length rs ≡ m) × AllNeat n rs

-- ---- unused places

all_blank-place : (rs : List Run) → all_blank rs ≡ true → (p : ℕ) → ((place rs p).from ≡ 0) × ((place rs p).to ≡ 0)
unfolding all_blank
all_blank-place [] e p = (refl, refl)
all_blank-place (r ∷ rs) e zero =
    let h = (and_parts (is_blank r) (all_blank rs) e).0 in
    let k = and_parts (eqb r.from 0) (eqb r.to 0) h in
    (eqb-true _ _ k.0, eqb-true _ _ k.1)
all_blank-place (r ∷ rs) e (suc p) = all_blank-place rs (and_parts (is_blank r) (all_blank rs) e).1 p

-- past an unused place all are unused
neat_all_blank : (n : ℕ) (rs : List Run) → AllNeat n rs → (place rs 0).to ≡ 0 → all_blank rs ≡ true
unfolding all_blank
neat_all_blank n [] neat z = refl
neat_all_blank n (r ∷ rs) neat z =
    let h = neat 0 in
    let next : (place rs 0).to ≡ 0 =
    ⊎_elim (λ (e : (place rs 0).to ≡ 0). e) (λ (e : (place rs 0).to ≡ 0 → ⊥). absurd (omega (arith, (h.1.1.1 (omega (arith, e))).0))) (cases_eq (place rs 0).to 0) in
    and_from _ _ (and_from _ _ (eq-eqb r.from 0 (omega (arith, h.1.0))) (eq-eqb r.to 0 z)) (neat_all_blank n rs (λ p. neat (suc p)) next)

-- ---- `ordered` says the rules of each place

-- what `ordered` says of a run that is used, and of those after it
abbrev Used : ℕ → ℕ → Run → List Run → Type 0
Used n low r rs = (low ≤ r.from) × (r.from < r.to) × (r.to ≤ n) × (ordered n (suc r.to) rs ≡ true)

ordered_used : (n low : ℕ) (r : Run) (rs : List Run) → is_blank r ≡ false → ordered n low (r ∷ rs) ≡ true → Used n low r rs
unfolding ordered
ordered_used n low r rs used e =
    let all = sym (cond-false _ (all_blank rs) _ used) ∙ e in
    let a = and_parts (leb low r.from) _ all in
    let b = and_parts (ltb r.from r.to) _ a.1 in
    let c = and_parts (leb r.to n) _ b.1 in
    (leb-true _ _ a.0, ltb-true _ _ b.0, leb-true _ _ c.0, c.1)

ordered-blank : (n low : ℕ) (r : Run) (rs : List Run) → is_blank r ≡ true → ordered n low (r ∷ rs) ≡ true → all_blank (r ∷ rs) ≡ true
unfolding ordered all_blank
ordered-blank n low r rs unused e = and_from _ _ unused (sym (cond-true _ (all_blank rs) _ unused) ∙ e)

blank_neat : (n : ℕ) (rs : List Run) → all_blank rs ≡ true → AllNeat n rs
blank_neat n rs e p =
    let a = all_blank-place rs e p in
    let b = all_blank-place rs e (suc p) in
    (omega arith, (omega arith, (omega arith, λ s. absurd (omega arith))))

pub record Ordered (n low : ℕ) (rs : List Run) : Type 0 where
  pub first : 0 < (place rs 0).to → low ≤ (place rs 0).from
  pub neat : AllNeat n rs

pub ordered_places : (n low : ℕ) (rs : List Run) → ordered n low rs ≡ true → Ordered n low rs
ordered_places n low [] e = record { first = λ h. absurd (omega arith); neat = λ p. (omega arith, (omega arith, (omega arith, λ s. absurd (omega arith)))) }
ordered_places n low (r ∷ rs) e =
    ⊎_elim
    (λ (unused : is_blank r ≡ true).
    let none = ordered-blank n low r rs unused e in
    record { first = λ h. absurd (omega (arith, (all_blank-place (r ∷ rs) none 0).1)); neat = blank_neat n (r ∷ rs) none })
    (λ (used : is_blank r ≡ false).
    let h = ordered_used n low r rs used e in
    let ih = ordered_places n (suc r.to) rs h.3 in
    record { first = λ _. h.0; neat = neat_cons h ih })
    (cases_Bool (is_blank r))
  where
    neat_cons : Used n low r rs → Ordered n (suc r.to) rs → AllNeat n (r ∷ rs)
    neat_cons h ih zero = (h.2, (omega (arith, h.1), (λ _. h.1, λ s. (omega (arith, h.1), omega (arith, ih.first s)))))
    neat_cons h ih (suc p) = ih.neat p

pub places_ordered : (n low : ℕ) (rs : List Run) → Ordered n low rs → ordered n low rs ≡ true
unfolding ordered all_blank
places_ordered n low [] o = refl
places_ordered n low (r ∷ rs) o =
    let h = o.neat 0 in
    ⊎_elim
    (λ (z : r.to ≡ 0).
    let none = neat_all_blank n (r ∷ rs) o.neat z in
    let parts = blank_parts none in
    cond-true _ _ _ parts.0 ∙ parts.1)
    (λ (z : r.to ≡ 0 → ⊥).
    let used : 0 < r.to = omega (arith, z) in
    let rest : Ordered n (suc r.to) rs = record { first = λ s. (h.1.1.1 s).1; neat = λ p. o.neat (suc p) } in
    cond-false _ _ _ (not-blank z)
    ∙ and_from _ _ (le-leb low r.from (o.first used))
    (and_from _ _ (lt-ltb r.from r.to (h.1.1.0 used))
    (and_from _ _ (le-leb r.to n h.0) (places_ordered n (suc r.to) rs rest))))
    (cases_eq r.to 0)
  where
    blank_parts : all_blank (r ∷ rs) ≡ true → (is_blank r ≡ true) × (all_blank rs ≡ true)
    blank_parts e = and_parts (is_blank r) (all_blank rs) e

    not-blank : (r.to ≡ 0 → ⊥) → is_blank r ≡ false
    not-blank z =
        ⊎_elim (λ e. absurd (z (eqb-true _ _ (and_parts (eqb r.from 0) (eqb r.to 0) e).1))) (λ e. e) (cases_Bool (is_blank r))

module _ (n m : ℕ) (rs : List Run) where
  pub tidy_places : tidy n m rs ≡ true → Tidy n m rs
  tidy_places e =
      let h = and_parts (eqb (length rs) m) (ordered n 0 rs) e in
      (eqb-true _ _ h.0, (ordered_places n 0 rs h.1).neat)

  pub places_tidy : Tidy n m rs → tidy n m rs ≡ true
  places_tidy t =
      and_from _ _ (eq-eqb (length rs) m t.0) (places_ordered n 0 rs (record { first = λ h. omega arith; neat = t.1 }))

-- ---- the numbers that the first p places cover

unfoldable pub covered_to : List Run → ℕ → ℕ → ℕ
covered_to rs zero k = 0
covered_to rs (suc p) k = max (covered_to rs p k) (within (place rs p).from (place rs p).to k)

covered-cons : (r : Run) (rs : List Run) (p k : ℕ) → covered_to (r ∷ rs) (suc p) k ≡ max (within r.from r.to k) (covered_to rs p k)
unfolding covered_to
covered-cons r rs zero k = omega arith
covered-cons r rs (suc p) k = omega (arith, covered-cons r rs p k)

pub covered_places : (rs : List Run) (k : ℕ) → covered rs k ≡ covered_to rs (length rs) k
unfolding covered covered_to
covered_places [] k = refl
covered_places (r ∷ rs) k = omega (arith, covered_places rs k, covered-cons r rs (length rs) k)
