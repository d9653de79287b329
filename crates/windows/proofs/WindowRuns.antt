-- The runs of a set of seconds: where they stand, which of them can have a second, and what the places in use tell of two sets.
use Rattle.std.proofs.Common.{◌≡◌, ℕ, suc, ◌-◌, ◌≤◌, max, Bool, true, false, cond, ◌&&◌, ◌||◌, eqb, ltb, leb, List, [], ◌∷◌, length, drop, zip, Decides, sym, refl, ap, ap₂, ◌∙◌, subst, ⊎_elim, arith}
use Rattle.std.proofs.lemmas.Bool.{and_parts, and_from, and_left, and_cases, or_parts, cases_Bool, cond-true, cond-false, eqb-true, eq-eqb, leb-false, ltb-false}
use Rattle.std.proofs.lemmas.List.Sums.{take_while-cons}
use Rattle.std.specs.List.{list_any, list_all, take_while}
use Rattle.sets.specs.Ends.{place}
use Rattle.sets.specs.Runs.{within, covered, in_places}
use Rattle.sets.specs.declared.run.Run.{Run}
use Rattle.sets.proofs.Answering.{told}
use Rattle.sets.proofs.Covering.{end_is, covered-at, same_runs}
use Rattle.sets.proofs.Places.{AllNeat}
use Rattle.sets.proofs.Scans.{scan_runs}
use Rattle.sets.proofs.Used.{is_used, used_runs}
use Rattle.windows.specs.Sizes.{second_count, window_places}
use Rattle.windows.specs.WindowSets.{window, window_runs}
use Rattle.windows.specs.WindowFacts.{window_sets, one}
use Rattle.windows.specs.declared.windows.Windows.{Windows}

-- the places of a set hold its runs
stored : (x : Windows) → x.runs ≡ in_places window_places (window_runs x)
stored x = ap (λ y. y.runs) (told window_sets x (window x) (one x) (λ k h. λ i. window x k))

-- the places in use, and no others, hold its runs
pub used_of : (x : Windows) → take_while is_used x.runs ≡ window_runs x
unfolding in_places
used_of x =
    let rs = window_runs x in
    ap (take_while is_used) (stored x) ∙ used_runs second_count 0 (window_places - length rs) rs (scan_runs (window x) second_count second_count 0 (omega arith))

-- does a run stand in the place, and begin at k or below?
abbrev pub begins_by : ℕ → Run → Bool
begins_by k r = is_used r && leb r.from k

-- does a run stand in one of the two places?
abbrev pub either_used : Run × Run → Bool
either_used p = is_used p.0 || is_used p.1

-- do they hold the same?
abbrev pub same_run : Run × Run → Bool
same_run p = eqb p.0.from p.1.from && eqb p.0.to p.1.to

either : (a b : Bool) → max (cond a 1 0) (cond b 1 0) ≡ cond (a || b) 1 0
either true true = refl
either true false = refl
either false true = refl
either false false = refl

module _ (n : ℕ) where
  -- where no run that begins by k stands in the first place, none covers it
  none_begun : (r : Run) (rs : List Run) (k : ℕ) → AllNeat n (r ∷ rs) → k ≤ n → begins_by k r ≡ false → covered (r ∷ rs) k ≡ 0
  none_begun r rs k neat le f =
      let first = end_is n (r ∷ rs) 0 in
      covered-at n (length (r ∷ rs)) (r ∷ rs) (refl, neat) 0 k le (λ q l. absurd (omega arith))
      (⊎_elim (λ e. let unused = ltb-false 0 r.to e in omega arith) (λ e. let above = leb-false r.from k e in omega arith) (and_cases (is_used r) (leb r.from k) f))

  -- a number is covered if one of the runs that begin by it ends above it
  pub covered_begun : (rs : List Run) (k : ℕ) → AllNeat n rs → k ≤ n → covered rs k ≡ cond (list_any (λ r. ltb k r.to) (take_while (begins_by k) rs)) 1 0
  unfolding covered
  covered_begun [] k neat le = refl
  covered_begun (r ∷ rs) k neat le =
      let any : List Run → Bool = list_any (λ r. ltb k r.to) in
      let taken = take_while-cons (begins_by k) r rs in
      ⊎_elim
      (λ (t : begins_by k r ≡ true).
      let here : within r.from r.to k ≡ cond (ltb k r.to) 1 0 = ap (λ b. cond (b && ltb k r.to) 1 0) (and_parts _ _ t).1 in
      ap₂ max here (covered_begun rs k (λ p. neat (suc p)) le) ∙ either (ltb k r.to) (any (take_while (begins_by k) rs)) ∙ ap (λ l. cond (any l) 1 0) (sym (taken ∙ cond-true _ _ _ t)))
      (λ (f : begins_by k r ≡ false). none_begun r rs k neat le f ∙ ap (λ l. cond (any l) 1 0) (sym (taken ∙ cond-false _ _ _ f)))
      (cases_Bool (begins_by k r))

  -- two lists of runs are the same if their places are, as far as one of the two is in use
  pub same_while_used : (xs ys : List Run) → AllNeat n xs → AllNeat n ys → length xs ≡ length ys → Decides (list_all same_run (take_while either_used (zip xs ys))) (xs ≡ ys)
  same_while_used [] [] p q long = (λ _. refl, λ _. refl)
  same_while_used [] (y ∷ ys) p q long = absurd (omega (arith, long))
  same_while_used (x ∷ xs) [] p q long = absurd (omega (arith, long))
  same_while_used (x ∷ xs) (y ∷ ys) p q long =
      let taken = take_while-cons either_used (x, y) (zip xs ys) in
      let so : List (Run × Run) → Type 0 = λ l. Decides (list_all same_run l) (x ∷ xs ≡ y ∷ ys) in
      ⊎_elim
      (λ (t : either_used (x, y) ≡ true).
      let rest = same_while_used xs ys (λ k. p (suc k)) (λ k. q (suc k)) (omega (arith, long)) in
      subst so (sym (taken ∙ cond-true _ _ _ t)) (
        λ e.
            let both = and_parts (same_run (x, y)) _ e in
            let ends = and_parts (eqb x.from y.from) (eqb x.to y.to) both.0 in
            let from = eqb-true x.from y.from ends.0 in
            let to = eqb-true x.to y.to ends.1 in
            λ i. record { from = from i; to = to i } ∷ rest.0 both.1 i,
        λ e.
            and_from (same_run (x, y)) _
            (and_from _ _ (eq-eqb x.from y.from (ap (λ l. (place l 0).from) e)) (eq-eqb x.to y.to (ap (λ l. (place l 0).to) e))) (rest.1 (ap (drop 1) e)),
      ))
      (λ (f : either_used (x, y) ≡ false).
      let unused = or_parts (is_used x) (is_used y) f in
      subst so (sym (taken ∙ cond-false _ _ _ f)) (
        λ _. same_runs n (length (x ∷ xs)) (x ∷ xs) (y ∷ ys) (refl, p) (sym long, q) (λ k h. none_begun x xs k p (omega arith) (and_left _ _ unused.0) ∙ sym (none_begun y ys k q (omega arith) (and_left _ _ unused.1))),
        λ _. refl,
      ))
      (cases_Bool (either_used (x, y)))
