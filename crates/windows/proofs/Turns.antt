-- The turns of a walk over two sets: each is a step over their ends, and those up to the last tell what seconds the sets share.
use Rattle.std.proofs.Common.{◌≡◌, ℕ, ◌+◌, ◌%◌, ◌<◌, ◌≤◌, min, Bool, true, false, cond, not, ◌&&◌, eqb, ◌⊎◌, List, [], ◌∷◌, Some, None, Option, Decides, MatchOption, MatchBool, sym, refl, ap, ◌∙◌, subst, inl, inr, ⊎_elim, arith, Bor}
use Rattle.std.proofs.lemmas.Bool.{false≢true, cases_lt, cond-true, cond-false, eqb-true, eq-eqb, ne_eqb, leb-false, le-leb}
use Rattle.std.proofs.lemmas.Bool.Decides.{nat_tests}
use Rattle.std.specs.Fn.{Called, CalledAt}
use Rattle.std.specs.Iterator.{Yields, YieldsThen}
use Rattle.std.specs.declared.iter.TakeWhile.{TakeWhile}
use Rattle.std.specs.Iterator.Adapters.{take_while_source, take_while_done, take_while_callee, take_while_steps}
use Rattle.std.specs.List.{FoldsTo}
use denote.Param.Members.{Mut}
use Rattle.sets.proofs.Covering.{ends_rise, covered-at}
use Rattle.sets.proofs.Rising.{Rises}
use Rattle.sets.proofs.Walks.{Seen, Step, step, seen_step, step_covered, step_found, end_even}
use Rattle.windows.specs.Sizes.{second_count, window_places}
use Rattle.windows.specs.Walking.{end_at, next_end, passed, walked, other_left, turn_of, start_of, WalksOn}
use Rattle.windows.specs.WindowSets.{window, Reaches}
use Rattle.windows.specs.WindowFacts.{tidy_of}
use Rattle.windows.specs.declared.windows.Windows.{Windows}
use Rattle.windows.specs.declared.windows.walk.Turn.{Turn}
use Rattle.windows.specs.declared.windows.walk.Walk.{Walk}

pub rises : (x : Windows) → Rises second_count (end_at x)
rises x = ends_rise second_count window_places x.runs (tidy_of x)

-- all ends below the next are passed
abbrev pub SeenBy : Walk → Type 0
SeenBy w = Seen (end_at w.one.now) (end_at w.other.now) w.passed_in_one w.passed_in_other

-- an end is passed if it is the lowest
pub passes : (x y : Windows) (i j : ℕ) (at : ℕ) → at ≡ min (end_at x i) (end_at y j)
    → ((passed at x i ≡ i + 1) × (end_at x i ≤ end_at y j)) ⊎ ((passed at x i ≡ i) × (end_at y j < end_at x i))
passes x y i j at is =
    ⊎_elim
    (λ (above : end_at y j < end_at x i). inr (cond-false _ (i + 1) i (ne_eqb (end_at x i) at (omega arith)), above))
    (λ (low : end_at x i ≤ end_at y j). inl (cond-true _ (i + 1) i (eq-eqb (end_at x i) at (omega arith)), low))
    (cases_lt (end_at y j) (end_at x i))

-- a turn is a step over the ends
pub turn_step : (w : Walk) → SeenBy w → next_end w ≤ second_count
    → Step (end_at w.one.now) (end_at w.other.now) (next_end w) (walked w).passed_in_one (walked w).passed_in_other
turn_step w seen low =
    let x = w.one.now in
    let y = w.other.now in
    step second_count (end_at x) (end_at y) (rises x) (rises y) _ _ _ _ seen low
    (passes x y w.passed_in_one w.passed_in_other _ refl) (passes y x w.passed_in_other w.passed_in_one _ (omega arith))

-- ---- seconds of one set that are in the other (v is 1), or not (v is 0)

-- second k is in one set, and in the other or not, as v says
abbrev Both : Windows → Windows → ℕ → ℕ → Type 0
Both x y v k = (window x k ≡ 1) × (window y k ≡ v)

-- all ends below the next are passed, and no such second lies there
pub record Unmet (v : ℕ) (w : Walk) : Type 0 where
  seen : SeenBy w
  none : (k : ℕ) → k < next_end w → k < second_count → Both w.one.now w.other.now v k → ⊥

-- the seconds after a turn are such
abbrev pub Meets : ℕ → Turn → Type 0
Meets v t = (t.in_one ≡ true) × (cond t.in_other 1 0 ≡ v)

-- are they in both sets?
abbrev pub in_both : Turn → Bool
in_both t = t.in_one && t.in_other

pub in_both-Meets : (t : Turn) → Decides (in_both t) (Meets 1 t)
in_both-Meets t = grind (arith, nat_tests)

-- are they in the one set alone?
abbrev pub in_one_alone : Turn → Bool
in_one_alone t = t.in_one && not t.in_other

pub in_one_alone-Meets : (t : Turn) → Decides (in_one_alone t) (Meets 0 t)
in_one_alone-Meets t = grind (arith, nat_tests)

odd_is : (n : ℕ) → cond (eqb (n % 2) 1) 1 0 ≡ n % 2
odd_is n = grind (arith, nat_tests)

start : (v : ℕ) (w : Walk) → w.passed_in_one ≡ 0 → w.passed_in_other ≡ 0 → Unmet v w
start v w i j = record {
  seen = (λ q l. absurd (omega arith), λ q l. absurd (omega arith));
  none = λ k l m b.
      let x = w.one.now in
      let out = covered-at second_count window_places x.runs (tidy_of x) w.passed_in_one k (omega arith) (λ q h. absurd (omega arith)) (omega arith) in
      omega (arith, out, b.0);
}

unmet-walked : (v : ℕ) (w : Walk) → Unmet v w → next_end w ≤ second_count → (Meets v (turn_of w) → ⊥) → Unmet v (walked w)
unmet-walked v w u low not-met =
    let x = w.one.now in
    let y = w.other.now in
    let s = turn_step w u.seen low in
    record {
      seen = seen_step (end_at x) (end_at y) (next_end w) _ _ s;
      none = λ k l m b. ⊎_elim
          (λ (h : k < next_end w). u.none k h m b)
          (λ (h : next_end w ≤ k).
          let c = step_covered second_count window_places x.runs y.runs (tidy_of x) (tidy_of y) (next_end w) _ _ s k (omega arith) h l in
          not-met (eq-eqb _ _ (sym c.0 ∙ b.0), odd_is _ ∙ sym c.1 ∙ b.1))
          (cases_lt k (next_end w));
    }

-- a turn that meets them shows one
met : (v : ℕ) (w : Walk) → Unmet v w → next_end w ≤ second_count → Meets v (turn_of w) → Reaches w.one.now w.other.now v
met v w u low m =
    let x = w.one.now in
    let y = w.other.now in
    let s = turn_step w u.seen low in
    let f = step_found second_count window_places x.runs y.runs (tidy_of x) (tidy_of y) (next_end w) _ _ s low (eqb-true _ _ m.0) in
    (next_end w, f.0, f.1, f.2 ∙ sym (odd_is _) ∙ m.1)

-- past all ends of the one set there is none
unmet_end : (v : ℕ) (w : Walk) → Unmet v w → second_count < end_at w.one.now w.passed_in_one → Reaches w.one.now w.other.now v → ⊥
unmet_end v w u past (k, l, m, n) =
    let x = w.one.now in
    let e = end_at x in
    let i = w.passed_in_one in
    ⊎_elim
    (λ (h : k < next_end w). u.none k h l (m, n))
    (λ (h : next_end w ≤ k).
    let below : (q : ℕ) → q < i → e q ≤ k = λ q g. omega (arith, u.seen.0 q g) in
    let even = end_even second_count window_places x.runs (tidy_of x) i (λ q g. omega (arith, below q g)) past in
    let out = covered-at second_count window_places x.runs (tidy_of x) i k (omega arith) below (omega arith) in
    absurd (omega (arith, out, m, even)))
    (cases_lt k (next_end w))

-- once a turn says that no end of the one set is left, there is none
pub one_ends : (v : ℕ) (w : Walk) → Unmet v w → (turn_of w).one_left ≡ false → Reaches w.one.now w.other.now v → ⊥
one_ends v w u e = unmet_end v w u (leb-false _ _ e)

-- the walk with the two sets exchanged
exchanged : Walk → Walk
exchanged w = record { one = w.other; other = w.one; passed_in_one = w.passed_in_other; passed_in_other = w.passed_in_one }

unmet-exchanged : (w : Walk) → Unmet 1 w → Unmet 1 (exchanged w)
unfolding exchanged
unmet-exchanged w u = record {
  seen = (λ q l. omega (arith, u.seen.1 q l), λ q l. omega (arith, u.seen.0 q l));
  none = λ k l m b. u.none k (omega (arith, l)) m (b.1, b.0);
}

-- are ends of both sets left?
abbrev pub both_left : Turn → Bool
both_left t = t.one_left && t.other_left

-- once a turn says that no end of one of the two is left, they share none
pub either_ends : (w : Walk) → Unmet 1 w → both_left (turn_of w) ≡ false → Reaches w.one.now w.other.now 1 → ⊥
unfolding exchanged
either_ends w u e (k, l, m, n) =
    ⊎_elim
    (λ (past : second_count < end_at w.one.now w.passed_in_one). unmet_end 1 w u past (k, l, m, n))
    (λ (left : end_at w.one.now w.passed_in_one ≤ second_count).
    unmet_end 1 (exchanged w) (unmet-exchanged w u) (leb-false _ _ (sym (ap (λ b. b && other_left w) (le-leb _ _ left)) ∙ e)) (k, l, n, m))
    (cases_lt second_count (end_at w.one.now w.passed_in_one))

module _ {F P : Type 0} (g : Mut F (Turn × Unit {0}) Bool) (h : Mut P (Bor Turn × Unit {0}) Bool) (f : F) (p : P) (v : ℕ) (meets : Turn → Bool)
    (test : (t : Turn) → Decides (meets t) (Meets v t))
    (reads : (t : Turn) (b : Bool) (q : F) → Called g f (t, tt) b q → (q ≡ f) × (b ≡ meets t))
    (stays : Turn → Bool) (ends : (w : Walk) → Unmet v w → stays (turn_of w) ≡ false → Reaches w.one.now w.other.now v → ⊥)
    (keeps : (t : Turn) (b : Bool) (q : P) → CalledAt h p t b q → (q ≡ p) × (b ≡ stays t)) (x y : Bor Windows) where
  abbrev walk : TakeWhile Walk P → Walk
  walk = take_while_source

  abbrev Steps : TakeWhile Walk P → Option Turn → TakeWhile Walk P → Type 0
  Steps = take_while_steps WalksOn h

  -- the walk over x and y goes on, and has met nothing
  record Going (s : TakeWhile Walk P) : Type 0 where
    done : take_while_done s ≡ false
    callee : take_while_callee s ≡ p
    one : (walk s).one ≡ x
    other : (walk s).other ≡ y
    unmet : Unmet v (walk s)

  -- what a step took from the walk, and whether that was handed on
  abbrev Took : TakeWhile Walk P → Option Turn → TakeWhile Walk P → Type 0
  Took s r t = (o : Option Turn) × WalksOn (walk s) o (walk t) × MatchOption o ((r ≡ None) × (take_while_done t ≡ false))
      (λ z. (b : Bool) × CalledAt h (take_while_callee s) z b (take_while_callee t)
      × MatchBool b ((r ≡ Some z) × (take_while_done t ≡ false)) ((r ≡ None) × (take_while_done t ≡ true)))

  took : (s t : TakeWhile Walk P) (r : Option Turn) → Going s → Steps s r t → Took s r t
  took s t r on k = subst (λ b. MatchBool b ((r ≡ None) × (t ≡ s)) (Took s r t)) on.done k

  -- the turn was handed on if the walk stays there
  kept : (s t : TakeWhile Walk P) (z : Turn) (b : Bool) → Going s → CalledAt h (take_while_callee s) z b (take_while_callee t) → (take_while_callee t ≡ p) × (b ≡ stays z)
  kept s t z b on k = keeps z b _ (subst (λ q. CalledAt h q z b (take_while_callee t)) on.callee k)

  -- a turn that comes is the walk's
  came : (s t : TakeWhile Walk P) (z : Turn) → Going s → Took s (Some z) t
      → WalksOn (walk s) (Some z) (walk t) × (take_while_callee t ≡ p) × (take_while_done t ≡ false)
  came s t z on (None, w, k) = absurd (cc (k.0))
  came s t z on (Some a, w, (false, called, k)) = absurd (cc (k.0))
  came s t z on (Some a, w, (true, called, k)) = let e : a ≡ z = cc (k.0) in (subst (λ b. WalksOn (walk s) (Some b) (walk t)) e w, (kept s t a true on called).0, k.1)

  -- where none comes, there is none
  ended : (s t : TakeWhile Walk P) → Going s → Took s None t → Reaches (walk s).one.now (walk s).other.now v → ⊥
  ended s t on (None, past, k) = unmet_end v (walk s) on.unmet (omega (arith, past))
  ended s t on (Some a, w, (true, called, k)) = absurd (cc (k.0))
  ended s t on (Some a, w, (false, called, k)) = ends (walk s) on.unmet (ap stays (sym w.0) ∙ sym (kept s t a false on called).1)

  -- all turns that failed the test leave nothing found
  unmet_after : (zs : List Turn) (q j : F) (s t : TakeWhile Walk P) → q ≡ f → Going s → Yields Steps s zs t → FoldsTo (λ p z q. Called g p (z, tt) false q) q zs j
      → (j ≡ f) × Going t
  unmet_after [] q j s t e on n k = (sym k ∙ e, subst Going n on)
  unmet_after (z ∷ zs) q j s t e on (s', n, ns) (q', called, k) =
      let c = came s s' z on (took s s' (Some z) on n) in
      let (is, to, low) = c.0 in
      let said = reads z false q' (subst (λ a. Called g a (z, tt) false q') e called) in
      let failed : Meets v (turn_of (walk s)) → ⊥ = λ m. false≢true (said.1 ∙ ap meets is ∙ (test (turn_of (walk s))).1 m) in
      let next : Going s' = record {
        done = c.2;
        callee = c.1;
        one = ap (λ w. w.one) to ∙ on.one;
        other = ap (λ w. w.other) to ∙ on.other;
        unmet = subst (Unmet v) (sym to) (unmet-walked v (walk s) on.unmet low failed);
      } in
      unmet_after zs q' j s' t said.0 next ns k

  -- the turn at which `any` stops shows one, and where it does not stop there is none
  tells : (t u : TakeWhile Walk P) (o : Option Turn) (r : Bool) (j : F) → j ≡ f → Going t → Steps t o u
      → MatchOption o (r ≡ false) (λ z. (r ≡ true) × ((k : F) × Called g j (z, tt) true k))
      → Decides r (Reaches x.now y.now v)
  tells t u None r j same on n none =
      (λ e. absurd (false≢true (sym none ∙ e)), λ m. absurd (ended t u on (took t u None on n) (rw (on.one, on.other) m)))
  tells t u (Some z) r j same on n (found, (k, called)) =
      let ((is, _, low), _, _) = came t u z on (took t u (Some z) on n) in
      let said = reads z true k (subst (λ q. Called g q (z, tt) true k) same called) in
      let shown = met v (walk t) on.unmet low ((test (turn_of (walk t))).0 (sym (said.1 ∙ ap meets is))) in
      (λ _. rw (on.one, on.other) at shown, λ _. found)

  -- what `any` answers where it takes the test at each turn
  pub any_reaches : (s u : TakeWhile Walk P) (r : Bool) → walk s ≡ start_of x y → take_while_done s ≡ false → take_while_callee s ≡ p
      → (zs : List Turn) × (o : Option Turn) × (j : F) × YieldsThen Steps s zs o u × FoldsTo (λ p z q. Called g p (z, tt) false q) f zs j
      × MatchOption o (r ≡ false) (λ z. (r ≡ true) × ((k : F) × Called g j (z, tt) true k))
      → Decides r (Reaches x.now y.now v)
  any_reaches s u r is done callee (zs, o, j, (t, ys, n), folds, told) =
      let first : Going s = record {
        done = done;
        callee = callee;
        one = ap (λ w. w.one) is;
        other = ap (λ w. w.other) is;
        unmet = start v (walk s) (ap (λ w. w.passed_in_one) is) (ap (λ w. w.passed_in_other) is);
      } in
      let (same, on) = unmet_after zs f j s t refl first ys folds in
      tells t u o r j same on n told
