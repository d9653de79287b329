-- Every other number makes as many runs as there are such numbers.
use Rattle.std.proofs.Common.{◌≡◌, ℕ, zero, suc, ◌-◌, ◌*◌, ◌%◌, ◌∷◌, map, sym, refl, ap, ◌∙◌, add-one, arith}
use Rattle.std.specs.List.{range_with_len}
use Rattle.std.proofs.lemmas.Bool.{cond-false, ne_eqb}
use Rattle.sets.specs.Runs.{run, put_before, runs_from}
use Rattle.sets.specs.declared.run.Run.{Run}
use Rattle.sets.proofs.Scans.{scan_in, scan_out}

abbrev pub single : ℕ → Run
single p = run (p * 2) (suc (p * 2))

put_single : (k m : ℕ) → put_before (k * 2) (map single (range_with_len (suc k) m)) ≡ single k ∷ map single (range_with_len (suc k) m)
unfolding put_before
put_single k zero = refl
put_single k (suc m) = cond-false _ _ _ (ne_eqb (suc k * 2) (suc (k * 2)) (λ e. omega arith))

pub alternate : (m k : ℕ) → runs_from (λ j. 1 - j % 2) (m * 2) (k * 2) ≡ map single (range_with_len k m)
unfolding runs_from
alternate zero k = refl
alternate (suc m) k =
    let f : ℕ → ℕ = λ j. 1 - j % 2 in
    let two : suc m * 2 ≡ suc (suc (m * 2)) = omega arith in
    let next : suc (suc (k * 2)) ≡ suc k * 2 = omega arith in
    ap (λ d. runs_from f d (k * 2)) two
    ∙ scan_in f (suc (m * 2)) (k * 2) (λ e. omega arith)
    ∙ ap (put_before (k * 2)) (scan_out f (m * 2) (suc (k * 2)) (omega arith) ∙ ap (runs_from f (m * 2)) next ∙ alternate m (suc k))
    ∙ put_single k m
    ∙ ap (λ x. single k ∷ map single (range_with_len x m)) (sym (add-one k))
