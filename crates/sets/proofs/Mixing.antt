-- The ends that stand in one of two sets of runs but not in both, written out in order: they are the ends of the sets' difference.
use Rattle.std.proofs.Common.{◌≡◌, ℕ, zero, suc, ◌+◌, ◌*◌, ◌/◌, ◌%◌, ◌<◌, ◌≤◌, min, List, length, refl, ap, ◌∙◌, ⊎_elim, arith}
use Rattle.std.proofs.lemmas.Bool.{cases_lt}
use Rattle.sets.specs.Ends.{place, end_in_place, end_of}
use Rattle.sets.specs.Runs.{blank, covered}
use Rattle.sets.specs.declared.run.Run.{Run}
use Rattle.sets.proofs.Covering.{end_is, end-top, ends_rise, covered-is}
use Rattle.sets.proofs.Places.{AllNeat, Tidy}
use Rattle.sets.proofs.Rising.{upto, upto_in, upto_out, upto_past, upto_same}
use Rattle.sets.proofs.Walks.{Seen, Step, seen_step, end_even, even_low, few}
use Rattle.sets.proofs.Writes.{in_place-is}

-- ---- the ends in one of the two but not in both, as they are written out

-- the first w ends written into `rs` are those among the first i of e and the first j of f that stand in one of the two
pub record Mixed (m : ℕ) (e f : ℕ → ℕ) (rs : List Run) (i j w : ℕ) : Type 0 where
  pub seen : Seen e f i j
  pub size : length rs ≡ m
  pub parity : (k : ℕ) → upto (end_in_place rs) w k % 2 ≡ (upto e i k + upto f j k) % 2
  pub rising : (q : ℕ) → suc q < w → end_in_place rs q < end_in_place rs (suc q)
  pub below : (q : ℕ) → q < w → end_in_place rs q < min (e i) (f j)
  pub blanks : (q : ℕ) → w ≤ q → end_in_place rs q ≡ 0
  pub even : (w + (i + j)) % 2 ≡ 0

pub mixed_none : (m : ℕ) (e f : ℕ → ℕ) (rs : List Run) → length rs ≡ m → ((p : ℕ) → place rs p ≡ blank) → Mixed m e f rs 0 0 0
unfolding upto
mixed_none m e f rs size all = record {
  seen = (λ q l. absurd (omega arith), λ q l. absurd (omega arith));
  size = size;
  parity = λ k. refl;
  rising = λ q l. absurd (omega arith);
  below = λ q l. absurd (omega arith);
  blanks = λ q l. let u = in_place-is rs q in let b = all (q / 2) in let f = ap (λ r. r.from) b in let t = ap (λ r. r.to) b in omega arith;
  even = refl;
}

module _ (m : ℕ) (e f : ℕ → ℕ) (rs : List Run) (i j w : ℕ) (x : Mixed m e f rs i j w) where
  -- an end in both is passed over
  pub mixed_both : e i ≡ f j → Step e f (min (e i) (f j)) (i + 1) (j + 1) → Mixed m e f rs (i + 1) (j + 1) w
  mixed_both same s = record {
    seen = seen_step e f _ _ _ s;
    size = x.size;
    parity = λ k.
        let p = x.parity k in
        let a : upto e (i + 1) k ≡ upto e (suc i) k = ap (λ q. upto e q k) (omega arith) in
        let b : upto f (j + 1) k ≡ upto f (suc j) k = ap (λ q. upto f q k) (omega arith) in
        ⊎_elim
        (λ (l : k < e i). let c = upto_out e i k l in let d = upto_out f j k (omega arith) in omega (arith, p, a, b, c, d))
        (λ (l : e i ≤ k). let c = upto_in e i k l in let d = upto_in f j k (omega arith) in omega (arith, p, a, b, c, d))
        (cases_lt k (e i));
    rising = x.rising;
    below = λ q l. omega (arith, x.below q l, s.next-left, s.next_right);
    blanks = x.blanks;
    even = omega (arith, x.even);
  }

  -- the lower end is written
  module _ (rs' : List Run) (at i' j' : ℕ) (lower : min (e i) (f j) ≡ at) (s : Step e f at i' j') (count : i' + j' ≡ i + j + 1)
      (sum : (k : ℕ) → (k < at → upto e i' k + upto f j' k ≡ upto e i k + upto f j k) × (at ≤ k → upto e i' k + upto f j' k ≡ suc (upto e i k + upto f j k)))
      (size' : length rs' ≡ length rs) (here : end_in_place rs' w ≡ at) (others : (q : ℕ) → (q ≡ w → ⊥) → end_in_place rs' q ≡ end_in_place rs q) where
    pub mixed_put : Mixed m e f rs' i' j' (w + 1)
    mixed_put = record {
      seen = seen_step e f at i' j' s;
      size = size' ∙ x.size;
      parity = λ k.
          let g = end_in_place rs' in
          let p = x.parity k in
          let old = upto_same g (end_in_place rs) w k (λ q l. others q (omega arith)) in
          let more : upto g (w + 1) k ≡ upto g (suc w) k = ap (λ q. upto g q k) (omega arith) in
          ⊎_elim
          (λ (l : k < at). let c = upto_out g w k (omega arith) in let d = (sum k).0 l in omega (arith, p, old, more, c, d))
          (λ (l : at ≤ k). let c = upto_in g w k (omega arith) in let d = (sum k).1 l in omega (arith, p, old, more, c, d))
          (cases_lt k at);
      rising = λ q l.
          let a = others q (omega arith) in
          ⊎_elim
          (λ (lt : suc q < w). omega (arith, a, others (suc q) (omega arith), x.rising q lt))
          (λ (ge : w ≤ suc q).
          let last : end_in_place rs' (suc q) ≡ end_in_place rs' w = ap (end_in_place rs') (omega arith) in
          omega (arith, a, last, here, lower, x.below q (omega arith)))
          (cases_lt (suc q) w);
      below = λ q l.
          ⊎_elim
          (λ (lt : q < w). omega (arith, others q (omega arith), x.below q lt, lower, s.next-left, s.next_right))
          (λ (ge : w ≤ q).
          let last : end_in_place rs' q ≡ end_in_place rs' w = ap (end_in_place rs') (omega arith) in
          omega (arith, last, here, s.next-left, s.next_right))
          (cases_lt q w);
      blanks = λ q l. others q (omega arith) ∙ x.blanks q (omega arith);
      even = omega (arith, x.even, count);
    }

  -- w ends that rise lie at 0, 1, 2 and so on at least
  low : (q : ℕ) → q < w → q ≤ end_in_place rs q
  low zero l = omega arith
  low (suc q) l = omega (arith, low q (omega arith), x.rising q l)

  pub written : (b : ℕ) → ((q : ℕ) → q < w → end_in_place rs q < b) → w ≤ b
  written b h =
      ⊎_elim (λ (l : 0 < w). go w refl) (λ (l : w ≤ 0). omega arith) (cases_lt 0 w)
    where
      go : (v : ℕ) → w ≡ v → w ≤ b
      go zero e = omega arith
      go (suc v) e = omega (arith, low v (omega arith), h v (omega arith))

  pub sum_left : (k : ℕ) → (k < e i → upto e (i + 1) k + upto f j k ≡ upto e i k + upto f j k) × (e i ≤ k → upto e (i + 1) k + upto f j k ≡ suc (upto e i k + upto f j k))
  sum_left k =
      let a : upto e (i + 1) k ≡ upto e (suc i) k = ap (λ q. upto e q k) (omega arith) in
      (λ l. omega (arith, a, upto_out e i k l), λ l. omega (arith, a, upto_in e i k l))

  pub sum_right : (k : ℕ) → (k < f j → upto e i k + upto f (j + 1) k ≡ upto e i k + upto f j k) × (f j ≤ k → upto e i k + upto f (j + 1) k ≡ suc (upto e i k + upto f j k))
  sum_right k =
      let a : upto f (j + 1) k ≡ upto f (suc j) k = ap (λ q. upto f q k) (omega arith) in
      (λ l. omega (arith, a, upto_out f j k l), λ l. omega (arith, a, upto_in f j k l))

module _ (n m : ℕ) (room : n ≤ m * 2) (xs ys rs : List Run) (tx : Tidy n m xs) (ty : Tidy n m ys) (i j w : ℕ) (x : Mixed m (end_of n xs) (end_of n ys) rs i j w) where
  seen_x : (q : ℕ) → q < i → end_of n xs q ≤ n
  seen_x q l = omega (arith, x.seen.0 q l, end-top n m xs tx i)

  seen_y : (q : ℕ) → q < j → end_of n ys q ≤ n
  seen_y q l = omega (arith, x.seen.1 q l, end-top n m ys ty j)

  -- there is room for one more end
  pub room_left : end_of n xs i ≤ n → end_of n xs i < end_of n ys j → w < m * 2
  room_left h l =
      let few-w = written m (end_of n xs) (end_of n ys) rs i j w x (end_of n xs i) (λ q b. omega (arith, x.below q b)) in
      ⊎_elim (λ (lt : w < m * 2). lt)
      (λ (ge : m * 2 ≤ w).
      let ej = end_even n m ys ty j seen_y (omega arith) in
      let ei : i % 2 ≡ 0 = omega (arith, x.even) in
      absurd (omega (arith, even_low n m xs tx i ei h)))
      (cases_lt w (m * 2))

  pub room_right : end_of n ys j ≤ n → end_of n ys j < end_of n xs i → w < m * 2
  room_right h l =
      let few-w = written m (end_of n xs) (end_of n ys) rs i j w x (end_of n ys j) (λ q b. omega (arith, x.below q b)) in
      ⊎_elim (λ (lt : w < m * 2). lt)
      (λ (ge : m * 2 ≤ w).
      let ei = end_even n m xs tx i seen_x (omega arith) in
      let ej : j % 2 ≡ 0 = omega (arith, x.even) in
      absurd (omega (arith, even_low n m ys ty j ej h)))
      (cases_lt w (m * 2))

  -- ---- at the end of the walk

  module _ (last-x : n < end_of n xs i) (last-y : n < end_of n ys j) where
    w_even : w % 2 ≡ 0
    w_even = omega (arith, x.even, end_even n m xs tx i seen_x last-x, end_even n m ys ty j seen_y last-y)

    w_few : w ≤ m * 2
    w_few =
        let h = written m (end_of n xs) (end_of n ys) rs i j w x (suc n) (λ q b. omega (arith, x.below q b, end-top n m xs tx i)) in
        omega (arith, w_even)

    -- the two ends of a place
    from_is : (p : ℕ) → (place rs p).from ≡ end_in_place rs (p * 2)
    from_is p =
        let u = in_place-is rs (p * 2) in
        let e = ap (λ q. (place rs q).from) {x = p * 2 / 2} {y = p} (omega arith) in
        omega arith

    to_is : (p : ℕ) → (place rs p).to ≡ end_in_place rs (suc (p * 2))
    to_is p =
        let u = in_place-is rs (suc (p * 2)) in
        let e = ap (λ q. (place rs q).to) {x = suc (p * 2) / 2} {y = p} (omega arith) in
        omega arith

    top : (q : ℕ) → q < w → end_in_place rs q ≤ n
    top q l = omega (arith, x.below q l, end-top n m xs tx i)

    mixed_neat : AllNeat n rs
    mixed_neat p =
        let a = from_is p in
        let b = to_is p in
        let c = from_is (suc p) in
        let d = to_is (suc p) in
        let c' : end_in_place rs (suc p * 2) ≡ end_in_place rs (suc (suc (p * 2))) = ap (end_in_place rs) (omega arith) in
        let d' : end_in_place rs (suc (suc p * 2)) ≡ end_in_place rs (suc (suc (suc (p * 2)))) = ap (end_in_place rs) (omega arith) in
        ⊎_elim
        (λ (l : p * 2 < w).
        let l' : suc (p * 2) < w = omega (arith, w_even) in
        let up = x.rising (p * 2) l' in
        let end = top (suc (p * 2)) l' in (
          omega arith,
          (
            omega arith,
            (
              omega arith,
              λ s.
                  ⊎_elim
                  (λ (k : suc (suc (p * 2)) < w). let up' = x.rising (suc (p * 2)) k in (omega arith, omega arith))
                  (λ (k : w ≤ suc (suc (p * 2))). absurd (omega (arith, x.blanks (suc (suc (suc (p * 2)))) (omega arith))))
                  (cases_lt (suc (suc (p * 2))) w),
            ),
          ),
        ))
        (λ (l : w ≤ p * 2).
        let z = x.blanks (p * 2) l in
        let z' = x.blanks (suc (p * 2)) (omega arith) in
        let z'' = x.blanks (suc (suc (suc (p * 2)))) (omega arith) in
        (omega arith, (omega arith, (omega arith, λ s. absurd (omega arith)))))
        (cases_lt (p * 2) w)

    pub mixed_tidy : Tidy n m rs
    mixed_tidy = (x.size, mixed_neat)

    -- the ends written are the ends of the runs
    end-written : (q : ℕ) → q < w → end_of n rs q ≡ end_in_place rs q
    end-written q l =
        let p = q / 2 in
        let u = end_is n rs q in
        let v = in_place-is rs q in
        let up = x.rising (p * 2) (omega (arith, w_even)) in
        let t = to_is p in
        omega arith

    end-last : n < end_of n rs w
    end-last =
        let u = end_is n rs w in
        let t = to_is (w / 2) in
        let z = x.blanks (suc (w / 2 * 2)) (omega (arith, w_even)) in
        ⊎_elim (λ b. omega (arith, b.1)) (⊎_elim (λ b. absurd (omega (arith, b.0))) (λ b. absurd (omega (arith, b.0)))) u

    pub mixed_mixes : (k : ℕ) → k < n → covered rs k + 2 * min (covered xs k) (covered ys k) ≡ covered xs k + covered ys k
    mixed_mixes k kn =
        let le : k ≤ n = omega arith in
        let cr = covered-is n m rs mixed_tidy k le in
        let cx = covered-is n m xs tx k le in
        let cy = covered-is n m ys ty k le in
        let r = upto_past n (end_of n rs) (ends_rise n m rs mixed_tidy) w k le (omega (arith, end-last)) (m * 2) w_few in
        let r' = upto_same (end_of n rs) (end_in_place rs) w k end-written in
        let ux = upto_past n (end_of n xs) (ends_rise n m xs tx) i k le (omega arith) (m * 2) (few n m xs tx i seen_x) in
        let uy = upto_past n (end_of n ys) (ends_rise n m ys ty) j k le (omega arith) (m * 2) (few n m ys ty j seen_y) in
        let p = x.parity k in
        omega arith
