-- The difference of two sets, written end by end along a walk over both: an end that one of them has is one of the difference.
use Rattle.std.proofs.Common.{◌≡◌, ℕ, ◌+◌, ◌*◌, ◌%◌, ◌<◌, ◌≤◌, min, Bool, true, false, cond, not, eqb, ◌⊎◌, List, length, replicate, Some, sym, refl, ap, ◌∙◌, subst, inl, inr, ⊎_elim, arith, Bor}
use Rattle.std.specs.Bool.{beq}
use Rattle.std.proofs.lemmas.Bool.Decides.{nat_tests}
use Rattle.sets.specs.Ends.{end_in_place}
use Rattle.sets.specs.Runs.{blank, covered, tidy}
use Rattle.sets.specs.declared.run.Run.{Run}
use Rattle.sets.proofs.Mixing.{Mixed, mixed_none, mixed_both, mixed_put, mixed_tidy, mixed_mixes, room_left, room_right, sum_left, sum_right}
use Rattle.sets.proofs.Places.{places_tidy}
use Rattle.sets.proofs.Rising.{upto}
use Rattle.sets.proofs.Walks.{Step}
use Rattle.sets.proofs.Writes.{place-blank}
use Rattle.windows.proofs.Turns.{passes, turn_step}
use Rattle.windows.specs.Sizes.{second_count, window_places}
use Rattle.windows.specs.Walking.{end_at, next_end, walked, turn_of, start_of, WalksOn}
use Rattle.windows.specs.WindowSets.{window}
use Rattle.windows.specs.WindowFacts.{tidy_of}
use Rattle.windows.specs.declared.windows.Windows.{Windows}
use Rattle.windows.specs.declared.windows.walk.Turn.{Turn}
use Rattle.windows.specs.declared.windows.walk.Walk.{Walk}

-- the first n ends in rs are those that are passed in one of the sets but not in both
abbrev MixedBy : Walk → List Run → ℕ → Type 0
MixedBy w rs n = Mixed window_places (end_at w.one.now) (end_at w.other.now) rs w.passed_in_one w.passed_in_other n

-- does the difference begin or end at the turn, where n of its ends are written?
abbrev changes : Turn → ℕ → Bool
changes t n = not (beq (not (beq t.in_one t.in_other)) (eqb (n % 2) 1))

odd_sum : (a b c : ℕ) → cond (not (beq (not (beq (eqb (a % 2) 1) (eqb (b % 2) 1))) (eqb (c % 2) 1))) 1 0 ≡ (a + b + c) % 2
odd_sum a b c = grind (arith, nat_tests)

-- the ends of the two sets
abbrev ends_one : Walk → ℕ → ℕ
ends_one w = end_at w.one.now

abbrev ends_other : Walk → ℕ → ℕ
ends_other w = end_at w.other.now

-- the walk stands after both ends, or after the lower alone
abbrev Passed : Walk → ℕ → ℕ → Type 0
Passed w i j =
    ((i ≡ w.passed_in_one + 1) × (j ≡ w.passed_in_other + 1) × (ends_one w w.passed_in_one ≡ ends_other w w.passed_in_other))
    ⊎ (((i ≡ w.passed_in_one + 1) × (j ≡ w.passed_in_other) × (ends_one w w.passed_in_one < ends_other w w.passed_in_other))
    ⊎ ((i ≡ w.passed_in_one) × (j ≡ w.passed_in_other + 1) × (ends_other w w.passed_in_other < ends_one w w.passed_in_one)))

passed_by : (w : Walk) → Passed w (walked w).passed_in_one (walked w).passed_in_other
passed_by w =
    let x = w.one.now in
    let y = w.other.now in
    let i = w.passed_in_one in
    let j = w.passed_in_other in
    ⊎_elim
    (λ a. ⊎_elim (λ b. inl (a.0, b.0, omega (arith, a.1, b.1))) (λ b. inr (inl (a.0, b.0, b.1))) (passes y x j i (next_end w) (omega arith)))
    (λ a. ⊎_elim (λ b. inr (inr (a.0, b.0, a.1))) (λ b. absurd (omega (arith, a.1, b.1))) (passes y x j i (next_end w) (omega arith)))
    (passes x y i j (next_end w) refl)

module _ (w : Walk) (rs : List Run) (n : ℕ) (so_far : MixedBy w rs n) (low : next_end w ≤ second_count) where
  sum_is : (b : Bool) → changes (turn_of w) n ≡ b → ((walked w).passed_in_one + (walked w).passed_in_other + n) % 2 ≡ cond b 1 0
  sum_is b is = sym (odd_sum (walked w).passed_in_one (walked w).passed_in_other n) ∙ ap (λ c. cond c 1 0) is

  -- there is room for an end of the difference
  room_for : changes (turn_of w) n ≡ true → n < window_places * 2
  room_for is =
      let x = w.one.now in
      let y = w.other.now in
      let even = so_far.even in
      let odd = sum_is true is in
      ⊎_elim (λ b. absurd (omega (arith, b.0, b.1)))
      (⊎_elim
      (λ l. room_left second_count window_places (omega arith) x.runs y.runs rs (tidy_of x) (tidy_of y) _ _ n so_far (omega (arith, l.2)) l.2)
      (λ r. room_right second_count window_places (omega arith) x.runs y.runs rs (tidy_of x) (tidy_of y) _ _ n so_far (omega (arith, r.2)) r.2))
      (passed_by w)

  -- an end of both sets is passed over
  mixed_over : changes (turn_of w) n ≡ false → MixedBy (walked w) rs n
  mixed_over is =
      let i = w.passed_in_one in
      let j = w.passed_in_other in
      let even = so_far.even in
      let odd = sum_is false is in
      let s = turn_step w so_far.seen low in
      ⊎_elim
      (λ b.
      let M : ℕ → ℕ → Type 0 = λ p q. Mixed window_places (ends_one w) (ends_other w) rs p q n in
      let S : ℕ → ℕ → Type 0 = λ p q. Step (ends_one w) (ends_other w) (next_end w) p q in
      let t = subst (λ p. S p (j + 1)) b.0 (subst (λ q. S (walked w).passed_in_one q) b.1 s) in
      subst (λ p. M p (walked w).passed_in_other) (sym b.0) (subst (λ q. M (i + 1) q) (sym b.1) (mixed_both window_places (ends_one w) (ends_other w) rs i j n so_far b.2 t)))
      (⊎_elim (λ l. absurd (omega (arith, l.0, l.1))) (λ r. absurd (omega (arith, r.0, r.1))))
      (passed_by w)

  module _ (out : List Run) (size : length out ≡ window_places) (here : end_in_place out n ≡ next_end w)
      (others : (q : ℕ) → (q ≡ n → ⊥) → end_in_place out q ≡ end_in_place rs q) where
    -- an end of one set alone is written
    mixed_with : changes (turn_of w) n ≡ true → MixedBy (walked w) out (n + 1)
    mixed_with is =
        let i = w.passed_in_one in
        let j = w.passed_in_other in
        let even = so_far.even in
        let odd = sum_is true is in
        let s = turn_step w so_far.seen low in
        let put = mixed_put window_places (ends_one w) (ends_other w) rs i j n so_far out (next_end w) (walked w).passed_in_one (walked w).passed_in_other refl s in
        ⊎_elim (λ b. absurd (omega (arith, b.0, b.1)))
        (⊎_elim
        (λ l. put (omega (arith, l.0, l.1))
        (λ k.
        let p = ap (λ q. upto (ends_one w) q k) l.0 in
        let q = ap (λ q. upto (ends_other w) q k) l.1 in
        let more = sum_left window_places (ends_one w) (ends_other w) rs i j n so_far k in
        (λ lt. omega (arith, p, q, more.0 (omega (arith, lt, l.2))), λ ge. omega (arith, p, q, more.1 (omega (arith, ge, l.2)))))
        (size ∙ sym so_far.size) here others)
        (λ r. put (omega (arith, r.0, r.1))
        (λ k.
        let p = ap (λ q. upto (ends_one w) q k) r.0 in
        let q = ap (λ q. upto (ends_other w) q k) r.1 in
        let more = sum_right window_places (ends_one w) (ends_other w) rs i j n so_far k in
        (λ lt. omega (arith, p, q, more.0 (omega (arith, lt, r.2))), λ ge. omega (arith, p, q, more.1 (omega (arith, ge, r.2)))))
        (size ∙ sym so_far.size) here others))
        (passed_by w)

-- the same at a walk over x and y
pub record Writes (x y : Windows) (w : Walk) (rs : List Run) (n : ℕ) : Type 0 where
  pub one : w.one.now ≡ x
  pub other : w.other.now ≡ y
  pub mixed : MixedBy w rs n

pub writes_none : (x y : Bor Windows) (w : Walk) → w ≡ start_of x y → Writes x.now y.now w (replicate window_places blank) 0
writes_none x y w is = record {
  one = ap (λ v. v.one.now) is;
  other = ap (λ v. v.other.now) is;
  mixed = subst (λ v. MixedBy v (replicate window_places blank) 0) (sym is) (mixed_none window_places _ _ _ refl (place-blank window_places));
}

module _ {x y : Windows} {w v : Walk} {t : Turn} {rs : List Run} {n : ℕ} (so_far : Writes x y w rs n) (on : WalksOn w (Some t) v) where
  changed : (b : Bool) → changes t n ≡ b → changes (turn_of w) n ≡ b
  changed b is = ap (λ u. changes u n) (sym on.0) ∙ is

  -- there is room for the end of a turn that changes the difference
  pub room : changes t n ≡ true → n < window_places * 2
  room is = room_for w rs n so_far.mixed on.2 (changed true is)

  -- where it goes on, nothing is written
  pub writes-over : changes t n ≡ false → Writes x y v rs n
  writes-over is = record {
    one = ap (λ u. u.one.now) on.1 ∙ so_far.one;
    other = ap (λ u. u.other.now) on.1 ∙ so_far.other;
    mixed = subst (λ u. MixedBy u rs n) (sym on.1) (mixed_over w rs n so_far.mixed on.2 (changed false is));
  }

  -- and else its end
  pub writes_end : (out : List Run) → length out ≡ window_places → end_in_place out n ≡ t.at → ((q : ℕ) → (q ≡ n → ⊥) → end_in_place out q ≡ end_in_place rs q)
      → changes t n ≡ true → Writes x y v out (n + 1)
  writes_end out size here others is = record {
    one = ap (λ u. u.one.now) on.1 ∙ so_far.one;
    other = ap (λ u. u.other.now) on.1 ∙ so_far.other;
    mixed = subst (λ u. MixedBy u out (n + 1)) (sym on.1)
        (mixed_with w rs n so_far.mixed on.2 out size (here ∙ ap (λ u. u.at) on.0) others (changed true is));
  }

-- past the last end, the runs of the difference are written
module _ {x y : Windows} {w : Walk} {rs : List Run} {n : ℕ} (all : Writes x y w rs n) (past : second_count < next_end w) where
  pub tidy-writes : tidy second_count window_places rs ≡ true
  tidy-writes =
      let a = w.one.now in
      let b = w.other.now in
      places_tidy second_count window_places rs
      (mixed_tidy second_count window_places (omega arith) a.runs b.runs rs (tidy_of a) (tidy_of b) _ _ n all.mixed (omega arith) (omega arith))

  pub members-writes : (k : ℕ) → k < second_count → covered rs k + 2 * min (window x k) (window y k) ≡ window x k + window y k
  members-writes k h =
      let a = w.one.now in
      let b = w.other.now in
      let one = ap (λ z. window z k) all.one in
      let other = ap (λ z. window z k) all.other in
      omega (
        arith,
        one,
        other,
        mixed_mixes second_count window_places (omega arith) a.runs b.runs rs (tidy_of a) (tidy_of b) _ _ n all.mixed (omega arith) (omega arith) k h,
      )
