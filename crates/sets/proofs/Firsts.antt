-- The first run of a scan: the numbers before it, its own, and the scan after it.
use Rattle.std.proofs.Common.{◌≡◌, ℕ, zero, suc, ◌+◌, ◌-◌, ◌<◌, ◌≤◌, List, [], ◌∷◌, sym, refl, ap, ◌∙◌, subst, ap₂, ⊎_elim, arith}
use Rattle.std.proofs.lemmas.Bool.{cond-true, cond-false, cases_lt, eq-eqb, ne_eqb}
use Rattle.std.proofs.lemmas.Bool.Decides.{nat_tests}
use Rattle.sets.specs.Runs.{run, within, put_before, runs_from, runs_of}
use Rattle.sets.specs.declared.run.Run.{Run}
use Rattle.sets.proofs.Scans.{Runs, scan_in, scan_out, scan_runs}

-- numbers that are not in the set are passed over
pub scan_skip : (f : ℕ → ℕ) (n k d s : ℕ) → s ≡ k + d → s ≤ n → ((j : ℕ) → k ≤ j → j < s → f j ≡ 0) → runs_from f (n - k) k ≡ runs_from f (n - s) s
scan_skip f n k zero s e le out = ap₂ (runs_from f) (omega arith) (omega arith)
scan_skip f n k (suc d) s e le out =
    let more : n - k ≡ suc (n - suc k) = omega arith in
    ap (λ x. runs_from f x k) more ∙ scan_out f (n - suc k) k (out k (omega arith) (omega arith))
    ∙ scan_skip f n (suc k) d s (omega arith) le (λ j h l. out j (omega arith) l)

-- a run is alone if no run above begins at its end
put_alone : (n k : ℕ) (rs : List Run) → Runs n (suc (suc k)) rs → put_before k rs ≡ run k (suc k) ∷ rs
unfolding put_before
put_alone n k [] h = refl
put_alone n k (r ∷ rs) h = cond-false _ _ _ (ne_eqb r.from (suc k) (λ e. omega (arith, h.0)))

-- nothing begins at a number that is not in the set, or at the end
scan_gap : (f : ℕ → ℕ) (n e : ℕ) → e ≤ n → (e < n → f e ≡ 0) → Runs n (suc e) (runs_from f (n - e) e)
unfolding runs_from
scan_gap f n e le out =
    ⊎_elim
    (λ (lt : e < n).
    let more : n - e ≡ suc (n - suc e) = omega arith in
    subst (Runs n (suc e)) (sym (ap (λ x. runs_from f x e) more ∙ scan_out f (n - suc e) e (out lt))) (scan_runs f n (n - suc e) (suc e) (omega arith)))
    (λ (ge : n ≤ e). let none : n - e ≡ 0 = omega arith in subst (λ x. Runs n (suc e) (runs_from f x e)) (sym none) tt)
    (cases_lt e n)

-- the numbers s up to e - 1 are in the set, and e is not or is the end
pub scan_first : (f : ℕ → ℕ) (n s d e : ℕ) → e ≡ s + suc d → e ≤ n → ((j : ℕ) → s ≤ j → j < e → f j ≡ 0 → ⊥) → (e < n → f e ≡ 0)
    → runs_from f (n - s) s ≡ run s e ∷ runs_from f (n - e) e
unfolding put_before
scan_first f n s zero e is le in-it out =
    let more : n - s ≡ suc (n - e) = omega arith in
    let next : suc s ≡ e = omega arith in
    ap (λ x. runs_from f x s) more ∙ scan_in f (n - e) s (in-it s (omega arith) (omega arith))
    ∙ ap (λ x. put_before s (runs_from f (n - e) x)) next
    ∙ put_alone n s (runs_from f (n - e) e) (subst (λ x. Runs n (suc x) (runs_from f (n - e) e)) (sym next) (scan_gap f n e le out))
    ∙ ap (λ x. run s x ∷ runs_from f (n - e) e) next
scan_first f n s (suc d) e is le in-it out =
    let more : n - s ≡ suc (n - suc s) = omega arith in
    ap (λ x. runs_from f x s) more ∙ scan_in f (n - suc s) s (in-it s (omega arith) (omega arith))
    ∙ ap (put_before s) (scan_first f n (suc s) d e (omega arith) le (λ j h l. in-it j (omega arith) l) out)
    ∙ put_grows s e (runs_from f (n - e) e)
  where
    put_grows : (s e : ℕ) (rs : List Run) → put_before s (run (suc s) e ∷ rs) ≡ run s e ∷ rs
    put_grows s e rs = cond-true _ _ _ (eq-eqb (suc s) (suc s) refl)

-- the numbers of one run have that run alone
pub one_run : (n from to : ℕ) → from < to → to ≤ n → runs_of n (within from to) ≡ run from to ∷ []
unfolding runs_from
one_run n from to lt le =
    let f = within from to in
    let none : n - n ≡ 0 = omega arith in
    let before : (j : ℕ) → j < from → f j ≡ 0 = λ j h. grind (arith, nat_tests) in
    let after : (j : ℕ) → to ≤ j → f j ≡ 0 = λ j h. grind (arith, nat_tests) in
    let inside : (j : ℕ) → from ≤ j → j < to → f j ≡ 1 = λ j h k. grind (arith, nat_tests) in
    ap (λ d. runs_from f d 0) (omega arith)
    ∙ scan_skip f n 0 from from (omega arith) (omega arith) (λ j ge h. before j h)
    ∙ scan_first f n from (to - from - 1) to (omega arith) le (λ j ge h z. omega (arith, inside j ge h)) (λ _. after to (omega arith))
    ∙ ap (λ rs. run from to ∷ rs) (scan_skip f n to (n - to) n (omega arith) (omega arith) (λ j ge h. after j ge) ∙ ap (λ d. runs_from f d n) none)
