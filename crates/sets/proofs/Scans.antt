-- The runs of a choice of numbers: they are in order, few, and cover just those numbers.
use Rattle.std.proofs.Common.{◌≡◌, ℕ, zero, suc, ◌+◌, ◌-◌, ◌*◌, ◌<◌, ◌≤◌, min, max, true, false, eqb, List, [], ◌∷◌, ◌++◌, length, replicate, sym, refl, ap, ◌∙◌, subst, ⊎_elim, arith}
use Rattle.std.proofs.lemmas.List.{length-append, length-replicate}
use Rattle.std.proofs.lemmas.Bool.{and_from, cases_Bool, cases_eq, cond-true, cond-false, eqb-true, eqb-false, eq-eqb, ne_eqb, le-leb, lt-ltb}
use Rattle.std.proofs.lemmas.Bool.Decides.{nat_tests}
use Rattle.sets.specs.Runs.{run, is_run, blank, is_blank, within, covered, all_blank, ordered, tidy, put_before, runs_from, runs_of, in_places}
use Rattle.sets.specs.declared.run.Run.{Run}

pub within-le : (from to k : ℕ) → within from to k ≤ 1
within-le from to k = grind (arith, nat_tests)

pub is_run_when : (n from to : ℕ) → from < to → to ≤ n → is_run n from to ≡ true
is_run_when n from to lt le = and_from _ _ (lt-ltb from to lt) (le-leb to n le)

-- runs in order, from `low` on and up to n, with no unused place
abbrev pub Runs : ℕ → ℕ → List Run → Type 0
Runs n low [] = Unit {0}
Runs n low (r ∷ rs) = (low ≤ r.from) × (r.from < r.to) × (r.to ≤ n) × Runs n (suc r.to) rs

runs_lower : (n low low' : ℕ) (rs : List Run) → low' ≤ low → Runs n low rs → Runs n low' rs
runs_lower n low low' [] le h = tt
runs_lower n low low' (r ∷ rs) le h = (omega (arith, h.0), h.1, h.2, h.3)

-- ---- a number in front

put_runs : (n k : ℕ) (rs : List Run) → k < n → Runs n (suc k) rs → Runs n k (put_before k rs)
unfolding put_before
put_runs n k [] lt h = (omega arith, omega arith, lt, tt)
put_runs n k (r ∷ rs) lt h =
    ⊎_elim
    (λ (e : eqb r.from (suc k) ≡ true).
    subst (Runs n k) (sym (cond-true _ (run k r.to ∷ rs) _ e)) (omega arith, omega (arith, h.0, h.1), h.2, h.3))
    (λ (e : eqb r.from (suc k) ≡ false).
    subst (Runs n k) (sym (cond-false _ (run k r.to ∷ rs) _ e))
    (omega arith, omega arith, lt, (omega (arith, h.0, eqb-false r.from (suc k) e), h.1, h.2, h.3)))
    (cases_Bool (eqb r.from (suc k)))

put_covered : (n k j : ℕ) (rs : List Run) → Runs n (suc k) rs → covered (put_before k rs) j ≡ max (within k (suc k) j) (covered rs j)
unfolding put_before covered
put_covered n k j [] h = refl
put_covered n k j (r ∷ rs) h =
    ⊎_elim
    (λ (e : eqb r.from (suc k) ≡ true).
    let lt = h.1 in
    let from : r.from ≡ suc k = eqb-true _ _ e in
    let grown : within k r.to j ≡ max (within k (suc k) j) (within r.from r.to j) = grind (arith, nat_tests) in
    ap (λ l. covered l j) (cond-true _ (run k r.to ∷ rs) _ e) ∙ omega (arith, grown))
    (λ (e : eqb r.from (suc k) ≡ false). ap (λ l. covered l j) (cond-false _ (run k r.to ∷ rs) _ e))
    (cases_Bool (eqb r.from (suc k)))

-- ---- one number more, in the set or not

module _ (f : ℕ → ℕ) (d k : ℕ) where
  pub scan_out : f k ≡ 0 → runs_from f (suc d) k ≡ runs_from f d (suc k)
  unfolding runs_from
  scan_out z = cond-true _ _ _ (eq-eqb (f k) 0 z)

  pub scan_in : (f k ≡ 0 → ⊥) → runs_from f (suc d) k ≡ put_before k (runs_from f d (suc k))
  unfolding runs_from
  scan_in z = cond-false _ _ _ (ne_eqb (f k) 0 z)

pub scan_runs : (f : ℕ → ℕ) (n d k : ℕ) → k + d ≡ n → Runs n k (runs_from f d k)
unfolding runs_from
scan_runs f n zero k e = tt
scan_runs f n (suc d) k e =
    let ih = scan_runs f n d (suc k) (omega arith) in
    ⊎_elim
    (λ (z : f k ≡ 0). subst (Runs n k) (sym (scan_out f d k z)) (runs_lower n (suc k) k _ (omega arith) ih))
    (λ (z : f k ≡ 0 → ⊥). subst (Runs n k) (sym (scan_in f d k z)) (put_runs n k _ (omega arith) ih))
    (cases_eq (f k) 0)

-- the same numbers have the same runs
pub scan_same : (f g : ℕ → ℕ) (d k : ℕ) → ((j : ℕ) → k ≤ j → j < k + d → min (f j) 1 ≡ min (g j) 1) → runs_from f d k ≡ runs_from g d k
unfolding runs_from
scan_same f g zero k h = refl
scan_same f g (suc d) k h =
    let ih = scan_same f g d (suc k) (λ j ge lt. h j (omega arith) (omega arith)) in
    let here = h k (omega arith) (omega arith) in
    ⊎_elim
    (λ (z : f k ≡ 0). scan_out f d k z ∙ ih ∙ sym (scan_out g d k (omega arith)))
    (λ (z : f k ≡ 0 → ⊥). scan_in f d k z ∙ ap (put_before k) ih ∙ sym (scan_in g d k (λ e. omega (arith, z))))
    (cases_eq (f k) 0)

-- ---- what they cover

runs_covered_below : (n low : ℕ) (rs : List Run) (j : ℕ) → Runs n low rs → j < low → covered rs j ≡ 0
unfolding covered
runs_covered_below n low [] j h lt = refl
runs_covered_below n low (r ∷ rs) j h lt =
    let from = h.0 in
    let ih = runs_covered_below n (suc r.to) rs j h.3 (omega (arith, h.1)) in
    let out : within r.from r.to j ≡ 0 = grind (arith, nat_tests) in
    omega arith

pub scan_covered : (f : ℕ → ℕ) (n d k j : ℕ) → k + d ≡ n → k ≤ j → j < n → covered (runs_from f d k) j ≡ min (f j) 1
scan_covered f n zero k j e le lt = absurd (omega arith)
scan_covered f n (suc d) k j e le lt =
    let rs = runs_from f d (suc k) in
    let runs = scan_runs f n d (suc k) (omega arith) in
    let later : (j ≡ k → ⊥) → covered rs j ≡ min (f j) 1 = λ ne. scan_covered f n d (suc k) j (omega arith) (omega (arith, ne)) lt in
    let here : j ≡ k → covered rs j ≡ 0 = λ eq. runs_covered_below n (suc k) rs j runs (omega arith) in
    ⊎_elim
    (λ (z : f k ≡ 0).
    ap (λ l. covered l j) (scan_out f d k z)
    ∙ ⊎_elim (λ (eq : j ≡ k). here eq ∙ sym (ap (λ x. min (f x) 1) eq ∙ ap (λ x. min x 1) z)) later (cases_eq j k))
    (λ (z : f k ≡ 0 → ⊥).
    let more = ap (λ l. covered l j) (scan_in f d k z) ∙ put_covered n k j rs runs in
    ⊎_elim
    (λ (eq : j ≡ k).
    let in-it : within k (suc k) j ≡ 1 = grind (arith, nat_tests) in
    let one : min (f j) 1 ≡ 1 = ap (λ x. min (f x) 1) eq ∙ omega (arith, z) in
    omega (arith, here eq))
    (λ (ne : j ≡ k → ⊥).
    let out : within k (suc k) j ≡ 0 = grind (arith, nat_tests) in
    omega (arith, later ne))
    (cases_eq j k))
    (cases_eq (f k) 0)

-- ---- in m places

-- a run and the gap after it take two numbers
runs_few : (n low : ℕ) (rs : List Run) → low ≤ suc n → Runs n low rs → 2 * length rs + low ≤ suc n
runs_few n low [] le h = omega arith
runs_few n low (r ∷ rs) le h = omega (arith, h.0, h.1, runs_few n (suc r.to) rs (omega (arith, h.2)) h.3)

pub scan_few : (f : ℕ → ℕ) (n m : ℕ) → n ≤ m * 2 → length (runs_of n f) ≤ m
scan_few f n m room = omega (arith, runs_few n 0 (runs_of n f) (omega arith) (scan_runs f n n 0 (omega arith)))

blanks_blank : (j : ℕ) → all_blank (replicate j blank) ≡ true
unfolding all_blank
blanks_blank zero = refl
blanks_blank (suc j) = blanks_blank j

blanks_covered : (j k : ℕ) → covered (replicate j blank) k ≡ 0
unfolding covered
blanks_covered zero k = refl
blanks_covered (suc j) k = let out : within 0 0 k ≡ 0 = grind (arith, nat_tests) in omega (arith, blanks_covered j k)

blanks_ordered : (n low j : ℕ) → ordered n low (replicate j blank) ≡ true
unfolding ordered
blanks_ordered n low zero = refl
blanks_ordered n low (suc j) = blanks_blank j

used_not-blank : (r : Run) → r.from < r.to → is_blank r ≡ false
used_not-blank r lt =
    let ne : eqb r.to 0 ≡ false = ne_eqb r.to 0 (omega arith) in
    ⊎_elim (λ (e : eqb r.from 0 ≡ true). rw (e, ne)) (λ (e : eqb r.from 0 ≡ false). rw e) (cases_Bool (eqb r.from 0))

pub runs_ordered : (n low j : ℕ) (rs : List Run) → Runs n low rs → ordered n low (rs ++ replicate j blank) ≡ true
unfolding ordered
runs_ordered n low j [] h = blanks_ordered n low j
runs_ordered n low j (r ∷ rs) h =
    cond-false _ _ _ (used_not-blank r h.1)
    ∙ and_from _ _ (le-leb low r.from h.0)
    (and_from _ _ (lt-ltb r.from r.to h.1) (and_from _ _ (le-leb r.to n h.2) (runs_ordered n (suc r.to) j rs h.3)))

pub runs_covered : (rs : List Run) (j k : ℕ) → covered (rs ++ replicate j blank) k ≡ covered rs k
unfolding covered
runs_covered [] j k = blanks_covered j k
runs_covered (r ∷ rs) j k = omega (arith, runs_covered rs j k)

module _ (n m : ℕ) (room : n ≤ m * 2) (f : ℕ → ℕ) where
  pub places_keep : tidy n m (in_places m (runs_of n f)) ≡ true
  unfolding in_places
  places_keep =
      let rs = runs_of n f in
      let long : length (rs ++ replicate (m - length rs) blank) ≡ m =
      omega (arith, length-append rs (replicate (m - length rs) blank), length-replicate (m - length rs) blank, scan_few f n m room) in
      and_from _ _ (eq-eqb _ m long) (runs_ordered n 0 (m - length rs) rs (scan_runs f n n 0 (omega arith)))

  pub places_cover : (k : ℕ) → k < n → covered (in_places m (runs_of n f)) k ≡ min (f k) 1
  unfolding in_places
  places_cover k lt =
      let rs = runs_of n f in
      runs_covered rs (m - length rs) k ∙ scan_covered f n n 0 k (omega arith) (omega arith) lt
