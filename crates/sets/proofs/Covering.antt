-- Runs by their ends: a number is in a run if an odd number of ends lies at or below it, and so the numbers tell the runs.
use Rattle.std.proofs.Common.{◌≡◌, ℕ, zero, suc, ◌*◌, ◌/◌, ◌%◌, ◌<◌, ◌≤◌, cond, eqb, ◌⊎◌, List, sym, refl, ap, ◌∙◌, inl, inr, ⊎_elim, arith}
use Rattle.std.proofs.lemmas.List.{get_or_past, ext_get_or}
use Rattle.std.proofs.lemmas.Bool.{cond-true, cond-false, cases_lt, cases_eq, eq-eqb, ne_eqb}
use Rattle.std.proofs.lemmas.Bool.Decides.{nat_tests}
use Rattle.sets.specs.Ends.{place, end_in_place, end_of}
use Rattle.sets.specs.Runs.{blank, within, covered}
use Rattle.sets.specs.declared.run.Run.{Run}
use Rattle.sets.proofs.Places.{AllNeat, Tidy, covered_to, covered_places}
use Rattle.sets.proofs.Rising.{Rises, upto, upto_in, upto_out, upto_all, upto_past, rise_below, same_ends}

pub end_is : (n : ℕ) (rs : List Run) (i : ℕ)
    → (((place rs (i / 2)).to ≡ 0) × (end_of n rs i ≡ suc n))
    ⊎ (((0 < (place rs (i / 2)).to) × (i % 2 ≡ 0) × (end_of n rs i ≡ (place rs (i / 2)).from))
    ⊎ ((0 < (place rs (i / 2)).to) × (i % 2 ≡ 1) × (end_of n rs i ≡ (place rs (i / 2)).to)))
unfolding end_of end_in_place
end_is n rs i =
    let r = place rs (i / 2) in
    let inner = cond (eqb (i % 2) 0) r.from r.to in
    ⊎_elim
    (λ (z : r.to ≡ 0). inl (z, cond-true _ (suc n) inner (eq-eqb r.to 0 z)))
    (λ (z : r.to ≡ 0 → ⊥).
    let used : 0 < r.to = omega (arith, z) in
    let past = cond-false _ (suc n) inner (ne_eqb r.to 0 z) in
    ⊎_elim
    (λ (v : i % 2 ≡ 0). inr (inl (used, v, past ∙ cond-true _ r.from r.to (eq-eqb (i % 2) 0 v))))
    (λ (v : i % 2 ≡ 0 → ⊥). inr (inr (used, omega (arith, v), past ∙ cond-false _ r.from r.to (ne_eqb (i % 2) 0 v))))
    (cases_eq (i % 2) 0))
    (cases_eq r.to 0)

module _ (n m : ℕ) (rs : List Run) (t : Tidy n m rs) where
  neat : AllNeat n rs
  neat = t.1

  pub end_past : (i : ℕ) → m * 2 ≤ i → n < end_of n rs i
  end_past i h =
      let e = ap (λ r. r.to) (get_or_past rs (i / 2) blank (omega (arith, t.0))) in
      ⊎_elim (λ u. omega (arith, u.1)) (⊎_elim (λ u. absurd (omega (arith, u.0))) (λ u. absurd (omega (arith, u.0)))) (end_is n rs i)

  pub end-top : (i : ℕ) → end_of n rs i ≤ suc n
  end-top i = let u = end_is n rs i in let r = neat (i / 2) in omega arith

  pub ends_rise : Rises n (end_of n rs)
  ends_rise i =
      let u = end_is n rs i in
      let v = end_is n rs (suc i) in
      let r = neat (i / 2) in
      let s = neat (suc (i / 2)) in
      ⊎_elim
      (λ (z : i % 2 ≡ 0).
      let same : suc i / 2 ≡ i / 2 = omega arith in
      let a = ap (λ p. (place rs p).from) same in
      let b = ap (λ p. (place rs p).to) same in
      ⊎_elim (λ (f : (place rs (i / 2)).to ≡ 0). (omega arith, omega arith))
      (λ (f : (place rs (i / 2)).to ≡ 0 → ⊥). let w : 0 < (place rs (i / 2)).to = omega (arith, f) in let lt = r.1.1.0 w in (omega arith, omega arith))
      (cases_eq (place rs (i / 2)).to 0))
      (λ (z : i % 2 ≡ 0 → ⊥).
      let odd : i % 2 ≡ 1 = omega (arith, z) in
      let next : suc i / 2 ≡ suc (i / 2) = omega arith in
      let a = ap (λ p. (place rs p).from) next in
      let b = ap (λ p. (place rs p).to) next in
      ⊎_elim (λ (f : (place rs (suc (i / 2))).to ≡ 0). (omega arith, omega arith))
      (λ (f : (place rs (suc (i / 2))).to ≡ 0 → ⊥). let w : 0 < (place rs (suc (i / 2))).to = omega (arith, f) in let lt = r.1.1.1 w in let lt' = s.1.1.0 w in (omega arith, omega arith))
      (cases_eq (place rs (suc (i / 2))).to 0))
      (cases_eq (i % 2) 0)

  -- ---- a number is in a run if an odd number of ends lies at or below it

  covered_parity : (k : ℕ) → k ≤ n → (p : ℕ) → covered_to rs p k ≡ upto (end_of n rs) (p * 2) k % 2
  unfolding covered_to upto
  covered_parity k kn zero = refl
  covered_parity k kn (suc p) =
      let e = end_of n rs in
      let ih = covered_parity k kn p in
      let r = place rs p in
      let hi : p * 2 / 2 ≡ p = omega arith in
      let hi' : suc (p * 2) / 2 ≡ p = omega arith in
      let af = ap (λ q. (place rs q).from) hi in
      let at = ap (λ q. (place rs q).to) hi in
      let bf = ap (λ q. (place rs q).from) hi' in
      let bt = ap (λ q. (place rs q).to) hi' in
      let u = end_is n rs (p * 2) in
      let v = end_is n rs (suc (p * 2)) in
      let x = neat p in
      let double : suc p * 2 ≡ suc (suc (p * 2)) = omega arith in
      let two = ap (λ q. upto e q k) double in
      ⊎_elim
      (λ (z : r.to ≡ 0).
      let a = upto_out e (p * 2) k (omega arith) in
      let b = upto_out e (suc (p * 2)) k (omega arith) in
      let w : within r.from r.to k ≡ 0 = grind (arith, nat_tests) in
      omega (arith, ih, two, a, b, w))
      (λ (z : r.to ≡ 0 → ⊥).
      let used : 0 < r.to = omega (arith, z) in
      let lt = x.1.1.0 used in
      let ef : e (p * 2) ≡ r.from = omega arith in
      let et : e (suc (p * 2)) ≡ r.to = omega arith in
      ⊎_elim
      (λ (l : k < r.from).
      let a = upto_out e (p * 2) k (omega arith) in
      let b = upto_out e (suc (p * 2)) k (omega arith) in
      let w : within r.from r.to k ≡ 0 = grind (arith, nat_tests) in
      omega (arith, ih, two, a, b, w))
      (λ (l : r.from ≤ k).
      let c = upto_all e (p * 2) k (λ q h. let below = rise_below n e ends_rise (p * 2) (omega arith) q h in omega arith) in
      let a = upto_in e (p * 2) k (omega arith) in
      ⊎_elim
      (λ (m : k < r.to).
      let b = upto_out e (suc (p * 2)) k (omega arith) in
      let w : within r.from r.to k ≡ 1 = grind (arith, nat_tests) in
      omega (arith, ih, two, a, b, c, w))
      (λ (m : r.to ≤ k).
      let b = upto_in e (suc (p * 2)) k (omega arith) in
      let w : within r.from r.to k ≡ 0 = grind (arith, nat_tests) in
      omega (arith, ih, two, a, b, c, w))
      (cases_lt k r.to))
      (cases_lt k r.from))
      (cases_eq r.to 0)

  covered_all : (k : ℕ) → covered rs k ≡ covered_to rs m k
  covered_all k = covered_places rs k ∙ ap (λ p. covered_to rs p k) t.0

  pub covered-is : (k : ℕ) → k ≤ n → covered rs k ≡ upto (end_of n rs) (m * 2) k % 2
  covered-is k kn = covered_all k ∙ covered_parity k kn m

  -- between the ends before i and the end i
  pub covered-at : (i k : ℕ) → k ≤ n → ((q : ℕ) → q < i → end_of n rs q ≤ k) → k < end_of n rs i → covered rs k ≡ i % 2
  covered-at i k kn before after =
      let e = end_of n rs in
      let few : i ≤ m * 2 = ⊎_elim (λ (l : m * 2 < i). absurd (omega (arith, before (m * 2) l, end_past (m * 2) (omega arith)))) (λ (l : i ≤ m * 2). l) (cases_lt (m * 2) i) in
      covered-is k kn ∙ ap (λ c. c % 2) (upto_past n e ends_rise i k kn after (m * 2) few ∙ upto_all e i k before)

  covered_none : (k : ℕ) → n ≤ k → (p : ℕ) → covered_to rs p k ≡ 0
  unfolding covered_to
  covered_none k h zero = refl
  covered_none k h (suc p) =
      let ih = covered_none k h p in
      let x = (neat p).0 in
      let w : within (place rs p).from (place rs p).to k ≡ 0 = grind (arith, nat_tests) in
      omega (arith, ih, w)

  pub covered_past : (k : ℕ) → n ≤ k → covered rs k ≡ 0
  covered_past k h = covered_all k ∙ covered_none k h m

  pub covered_le : (k : ℕ) → covered rs k ≤ 1
  covered_le k =
      ⊎_elim (λ (l : k < n). omega (arith, covered-is k (omega arith))) (λ (l : n ≤ k). omega (arith, covered_past k l)) (cases_lt k n)

-- ---- runs that cover the same numbers are the same runs

module _ (n m : ℕ) (xs ys : List Run) (tx : Tidy n m xs) (ty : Tidy n m ys) where
  pub same_runs : ((k : ℕ) → k < n → covered xs k ≡ covered ys k) → xs ≡ ys
  same_runs e =
      let cover : (k : ℕ) → k ≤ n → covered xs k ≡ covered ys k
      = λ k h. ⊎_elim (λ (l : k < n). e k l) (λ (l : n ≤ k). covered_past n m xs tx k l ∙ sym (covered_past n m ys ty k l)) (cases_lt k n) in
      let ends : (i : ℕ) → end_of n xs i ≡ end_of n ys i
      = λ i. same_ends n (m * 2) (end_of n xs) (end_of n ys) (ends_rise n m xs tx) (ends_rise n m ys ty) (end-top n m xs tx) (end-top n m ys ty)
      (end_past n m xs tx) (end_past n m ys ty) (λ k h. sym (covered-is n m xs tx k h) ∙ cover k h ∙ covered-is n m ys ty k h) (suc i) i (omega arith) in
      ext_get_or blank xs ys (tx.0 ∙ sym ty.0) (λ p h.
      let hi : p * 2 / 2 ≡ p = omega arith in
      let hi' : suc (p * 2) / 2 ≡ p = omega arith in
      let xf = ap (λ q. (place xs q).from) hi in
      let xt = ap (λ q. (place xs q).to) hi in
      let xf' = ap (λ q. (place xs q).from) hi' in
      let xt' = ap (λ q. (place xs q).to) hi' in
      let yf = ap (λ q. (place ys q).from) hi in
      let yt = ap (λ q. (place ys q).to) hi in
      let yf' = ap (λ q. (place ys q).from) hi' in
      let yt' = ap (λ q. (place ys q).to) hi' in
      let a = end_is n xs (p * 2) in
      let a' = end_is n xs (suc (p * 2)) in
      let b = end_is n ys (p * 2) in
      let b' = end_is n ys (suc (p * 2)) in
      let x = tx.1 p in
      let y = ty.1 p in
      let e0 = ends (p * 2) in
      let e1 = ends (suc (p * 2)) in
      let from : (place xs p).from ≡ (place ys p).from = omega arith in
      let to : (place xs p).to ≡ (place ys p).to = omega arith in
      λ i. record { from = from i; to = to i })
