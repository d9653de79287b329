-- Ends that rise up to n, and lie past n from then on; how many of them lie at or below a number.
use Rattle.std.proofs.Common.{◌≡◌, ℕ, zero, suc, ◌+◌, ◌%◌, ◌<◌, ◌≤◌, cond, leb, sym, refl, ap, ◌∙◌, subst, ⊎_elim, arith}
use Rattle.std.proofs.lemmas.Bool.{cond-true, cond-false, cases_lt, cases_order, le-leb, lt-leb}

-- how many of the first i are at most k
unfoldable pub upto : (ℕ → ℕ) → ℕ → ℕ → ℕ
upto e zero k = 0
upto e (suc i) k = upto e i k + cond (leb (e i) k) 1 0

abbrev pub Rises : ℕ → (ℕ → ℕ) → Type 0
Rises n e = (i : ℕ) → (e i ≤ n → e i < e (suc i)) × (n < e i → n < e (suc i))

pub upto_in : (e : ℕ → ℕ) (i k : ℕ) → e i ≤ k → upto e (suc i) k ≡ suc (upto e i k)
unfolding upto
upto_in e i k h = omega (arith, cond-true {A = ℕ} _ 1 0 (le-leb (e i) k h))

pub upto_out : (e : ℕ → ℕ) (i k : ℕ) → k < e i → upto e (suc i) k ≡ upto e i k
unfolding upto
upto_out e i k h = omega (arith, cond-false {A = ℕ} _ 1 0 (lt-leb (e i) k h))

-- all are
pub upto_all : (e : ℕ → ℕ) (i k : ℕ) → ((q : ℕ) → q < i → e q ≤ k) → upto e i k ≡ i
unfolding upto
upto_all e zero k h = refl
upto_all e (suc i) k h = upto_in e i k (h i (omega arith)) ∙ ap suc (upto_all e i k (λ q l. h q (omega arith)))

pub upto_same : (e f : ℕ → ℕ) (i k : ℕ) → ((q : ℕ) → q < i → e q ≡ f q) → upto e i k ≡ upto f i k
unfolding upto
upto_same e f zero k h = refl
upto_same e f (suc i) k h =
    let ih = upto_same e f i k (λ q l. h q (omega arith)) in
    let here = ap {B = ℕ} (λ a. cond (leb a k) 1 0) (h i (omega arith)) in
    omega (arith, ih, here)

module _ (n : ℕ) (e : ℕ → ℕ) (rise : Rises n e) where
  -- past k once, past k ever after
  pub stays_past : (i k : ℕ) → k ≤ n → k < e i → (j : ℕ) → i ≤ j → k < e j
  stays_past i k kn h zero l = subst (λ q. k < e q) (omega arith) h
  stays_past i k kn h (suc j) l =
      ⊎_elim
      (λ (lt : i < suc j).
      let ih = stays_past i k kn h j (omega arith) in
      ⊎_elim (λ (p : n < e j). omega (arith, (rise j).1 p)) (λ (p : e j ≤ n). omega (arith, (rise j).0 p)) (cases_lt n (e j)))
      (λ (ge : suc j ≤ i). subst (λ q. k < e q) (omega arith) h)
      (cases_lt i (suc j))

  pub upto_past : (i k : ℕ) → k ≤ n → k < e i → (j : ℕ) → i ≤ j → upto e j k ≡ upto e i k
  upto_past i k kn h zero l = ap (λ q. upto e q k) (omega arith)
  upto_past i k kn h (suc j) l =
      ⊎_elim
      (λ (lt : i < suc j). upto_out e j k (stays_past i k kn h j (omega arith)) ∙ upto_past i k kn h j (omega arith))
      (λ (ge : suc j ≤ i). ap (λ q. upto e q k) (omega arith))
      (cases_lt i (suc j))

  pub rise_below : (i : ℕ) → e i ≤ n → (q : ℕ) → q < i → e q < e i
  rise_below zero h q l = absurd (omega arith)
  rise_below (suc i) h q l =
      let low : e i ≤ n = ⊎_elim (λ (p : n < e i). absurd (omega (arith, (rise i).1 p))) (λ (p : e i ≤ n). p) (cases_lt n (e i)) in
      let up = (rise i).0 low in
      ⊎_elim
      (λ (lt : q < i). omega (arith, rise_below i low q lt))
      (λ (ge : i ≤ q). subst (λ x. e x < e (suc i)) (omega arith) up)
      (cases_lt q i)

-- ---- equal counts, equal ends

module _ (n m : ℕ) where
  -- e and f agree below i, and e has an end at i where f has none: there one count is odd where the other is even
  clash_at : (e f : ℕ → ℕ) → Rises n e → Rises n f → (i : ℕ) → i < m → ((q : ℕ) → q < i → e q ≡ f q) → e i ≤ n → e i < f i
      → upto e m (e i) % 2 ≡ upto f m (e i) % 2 → ⊥
  clash_at e f re rf i im agree low lt parity =
      let k = e i in
      let a = upto_past n e re (suc i) k low ((re i).0 low) m im in
      let b = upto_in e i k (omega arith) in
      let c = upto_past n f rf i k low lt m (omega arith) in
      let d = upto_same e f i k agree in
      omega arith

  pub same_ends : (e f : ℕ → ℕ) → Rises n e → Rises n f
      → ((i : ℕ) → e i ≤ suc n) → ((i : ℕ) → f i ≤ suc n) → ((i : ℕ) → m ≤ i → n < e i) → ((i : ℕ) → m ≤ i → n < f i)
      → ((k : ℕ) → k ≤ n → upto e m k % 2 ≡ upto f m k % 2)
      → (i : ℕ) → (q : ℕ) → q < i → e q ≡ f q
  same_ends e f re rf te tf ee ef parity zero q l = absurd (omega arith)
  same_ends e f re rf te tf ee ef parity (suc i) q l =
      let ih = same_ends e f re rf te tf ee ef parity i in
      let inside : (x : ℕ → ℕ) → ((j : ℕ) → m ≤ j → n < x j) → x i ≤ n → i < m
      = λ x past low. ⊎_elim (λ (h : i < m). h) (λ (h : m ≤ i). absurd (omega (arith, past i h))) (cases_lt i m) in
      ⊎_elim
      (λ (lt : q < i). ih q lt)
      (λ (ge : i ≤ q).
      let here : e i ≡ f i = ⊎_elim (λ (eq : e i ≡ f i). eq) (⊎_elim
      (λ (lt : e i < f i).
      let low : e i ≤ n = omega (arith, tf i) in
      absurd (clash_at e f re rf i (inside e ee low) ih low lt (parity (e i) low)))
      (λ (lt : f i < e i).
      let low : f i ≤ n = omega (arith, te i) in
      absurd (clash_at f e rf re i (inside f ef low) (λ p h. sym (ih p h)) low lt (sym (parity (f i) low)))))
      (cases_order (e i) (f i)) in
      subst (λ x. e x ≡ f x) (omega arith) here)
      (cases_lt q i)
