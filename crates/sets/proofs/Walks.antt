-- A walk over the ends of two sets of runs, the lower end first.
use Rattle.std.proofs.Common.{◌≡◌, ℕ, zero, suc, ◌+◌, ◌*◌, ◌/◌, ◌%◌, ◌<◌, ◌≤◌, min, ◌⊎◌, List, refl, ap, ◌∙◌, ⊎_elim, arith}
use Rattle.std.proofs.lemmas.Bool.{cases_lt, cases_eq}
use Rattle.sets.specs.Ends.{place, end_of}
use Rattle.sets.specs.Runs.{covered}
use Rattle.sets.specs.declared.run.Run.{Run}
use Rattle.sets.proofs.Covering.{end_is, end_past, covered-at, covered_past}
use Rattle.sets.proofs.Places.{Tidy}
use Rattle.sets.proofs.Rising.{Rises}

-- the first i ends of e and the first j of f are seen: all lie below those that come next
abbrev pub Seen : (ℕ → ℕ) → (ℕ → ℕ) → ℕ → ℕ → Type 0
Seen e f i j = ((q : ℕ) → q < i → e q < min (e i) (f j)) × ((q : ℕ) → q < j → f q < min (e i) (f j))

-- all ends up to `at` are seen, and those that come next lie past it
pub record Step (e f : ℕ → ℕ) (at i j : ℕ) : Type 0 where
  pub left : (q : ℕ) → q < i → e q ≤ at
  pub right : (q : ℕ) → q < j → f q ≤ at
  pub next-left : at < e i
  pub next_right : at < f j

pub seen_step : (e f : ℕ → ℕ) (at i j : ℕ) → Step e f at i j → Seen e f i j
seen_step e f at i j s =
    (λ q h. omega (arith, s.left q h, s.next-left, s.next_right), λ q h. omega (arith, s.right q h, s.next-left, s.next_right))

-- one side of a step: its end is passed if it is not above the other side's end y
side : (n : ℕ) (x : ℕ → ℕ) → Rises n x → (m m' y : ℕ) → ((q : ℕ) → q < m → x q < min (x m) y) → min (x m) y ≤ n
    → ((m' ≡ m + 1) × (x m ≤ y)) ⊎ ((m' ≡ m) × (y < x m))
    → ((q : ℕ) → q < m' → x q ≤ min (x m) y) × (min (x m) y < x m')
side n x rise m m' y seen low (◌⊎◌.inl (e, h)) = (
  λ q l. ⊎_elim (λ (lt : q < m). omega (arith, seen q lt)) (λ (ge : m ≤ q). let same : x q ≡ x m = ap x (omega arith) in omega arith) (cases_lt q m),
  let same : x m' ≡ x (suc m) = ap x (omega arith) in omega (arith, (rise m).0 (omega arith)),
)
side n x rise m m' y seen low (◌⊎◌.inr (e, h)) =
    let same : x m' ≡ x m = ap x e in
    (λ q l. omega (arith, seen q (omega arith)), omega arith)

pub step : (n : ℕ) (e f : ℕ → ℕ) → Rises n e → Rises n f → (i j i' j' : ℕ) → Seen e f i j → min (e i) (f j) ≤ n
    → ((i' ≡ i + 1) × (e i ≤ f j)) ⊎ ((i' ≡ i) × (f j < e i)) → ((j' ≡ j + 1) × (f j ≤ e i)) ⊎ ((j' ≡ j) × (e i < f j))
    → Step e f (min (e i) (f j)) i' j'
step n e f re rf i j i' j' seen low hi hj =
    let a = side n e re i i' (f j) seen.0 low hi in
    let b = side n f rf j j' (e i) (λ q l. omega (arith, seen.1 q l)) (omega arith) hj in
    record { left = a.0; right = λ q l. omega (arith, b.0 q l); next-left = a.1; next_right = omega (arith, b.1) }

-- ---- what a step says of the numbers from `at` up to the next end

module _ (n m : ℕ) (xs ys : List Run) (tx : Tidy n m xs) (ty : Tidy n m ys) (at i j : ℕ) (s : Step (end_of n xs) (end_of n ys) at i j) where
  pub step_covered : (k : ℕ) → k ≤ n → at ≤ k → k < min (end_of n xs i) (end_of n ys j) → (covered xs k ≡ i % 2) × (covered ys k ≡ j % 2)
  step_covered k kn a b = (
    covered-at n m xs tx i k kn (λ q l. omega (arith, s.left q l)) (omega arith),
    covered-at n m ys ty j k kn (λ q l. omega (arith, s.right q l)) (omega arith),
  )

  -- within xs at `at`: a number that shows it
  pub step_found : at ≤ n → i % 2 ≡ 1 → (at < n) × (covered xs at ≡ 1) × (covered ys at ≡ j % 2)
  step_found an odd =
      let c = step_covered at an (omega arith) (omega (arith, s.next-left, s.next_right)) in
      let lt : at < n = ⊎_elim (λ (l : at < n). l) (λ (l : n ≤ at). absurd (omega (arith, covered_past n m xs tx at l, c.0))) (cases_lt at n) in
      (lt, c.0 ∙ odd, c.1)

-- ---- ends come in pairs

module _ (n m : ℕ) (xs : List Run) (t : Tidy n m xs) where
  -- past the last end an even number is seen
  pub end_even : (i : ℕ) → ((q : ℕ) → q < i → end_of n xs q ≤ n) → n < end_of n xs i → i % 2 ≡ 0
  end_even zero h l = refl
  end_even (suc q) h l =
      ⊎_elim (λ (z : suc q % 2 ≡ 0). z)
      (λ (z : suc q % 2 ≡ 0 → ⊥).
      let odd : suc q % 2 ≡ 1 = omega (arith, z) in
      let same : suc q / 2 ≡ q / 2 = omega arith in
      let to = ap (λ p. (place xs p).to) same in
      let u = end_is n xs q in
      let v = end_is n xs (suc q) in
      let r = t.1 (q / 2) in
      absurd (omega (arith, h q (omega arith), u, v, to, r.0)))
      (cases_eq (suc q % 2) 0)

  -- the end of a `from` lies below n
  pub even_low : (i : ℕ) → i % 2 ≡ 0 → end_of n xs i ≤ n → end_of n xs i < n
  even_low i z h =
      let u = end_is n xs i in
      let r = t.1 (i / 2) in
      ⊎_elim (λ (b : (place xs (i / 2)).to ≡ 0). absurd (omega arith))
      (λ (b : (place xs (i / 2)).to ≡ 0 → ⊥). let lt = r.1.1.0 (omega (arith, b)) in omega arith)
      (cases_eq (place xs (i / 2)).to 0)

  pub few : (i : ℕ) → ((q : ℕ) → q < i → end_of n xs q ≤ n) → i ≤ m * 2
  few i h = ⊎_elim (λ (l : m * 2 < i). absurd (omega (arith, h (m * 2) l, end_past n m xs t (m * 2) (omega arith)))) (λ (l : i ≤ m * 2). l) (cases_lt (m * 2) i)
