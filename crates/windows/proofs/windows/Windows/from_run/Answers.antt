use Rattle.std.proofs.Common.{◌≡◌, ℕ, ◌<◌, ◌≤◌, [], ◌∷◌, replicate, Ok, sym, ap, ap₂, ◌∙◌, arith}
use Rattle.std.proofs.lemmas.Bool.{cond-true}
use Rattle.sets.specs.Members.{Has}
use Rattle.sets.specs.Runs.{blank, within, covered}
use Rattle.sets.specs.declared.run.Run.{Run}
use Rattle.sets.proofs.Answering.{told}
use Rattle.sets.proofs.Scans.{within-le, is_run_when, runs_ordered, runs_covered}
use Rattle.windows.specs.Sizes.{second_count}
use Rattle.windows.specs.WindowFacts.{window_sets}
use Rattle.windows.specs.WindowSets.{window, make_windows}
use Rattle.windows.specs.declared.windows.Windows.{Windows}
use Rattle.windows.proofs.windows.Windows.from_run.Goals as goal

pub invariant_of-result : goal.invariant_of-result
invariant_of-result c =
    let made = c.in_ok-runs.ensures.contents in
    let from = ap (λ r. r.from) made.0 in
    let to = ap (λ r. r.to) made.0 in
    record { sound = runs_ordered 128 0 63 (_ ∷ []) (omega arith, omega (arith, made.1), omega (arith, made.2), tt) }

-- one run covers its own numbers
one_run : (r : Run) (k : ℕ) → covered (r ∷ []) k ≡ within r.from r.to k
unfolding covered
one_run r k = omega arith

-- and so does a set of one run
run_covers : (r : Run) (from to k : ℕ) → r.from ≡ from → r.to ≡ to → covered (r ∷ replicate 63 blank) k ≡ within from to k
run_covers r from to k f t = runs_covered (r ∷ []) 63 k ∙ one_run r k ∙ ap₂ (λ a b. within a b k) f t

-- the set that has the numbers of a run is what is made of its ends
is_made : (x : Windows) (from to : ℕ) → from < to → to ≤ 128 → Has second_count window (within from to) x → Ok x ≡ make_windows from to
is_made x from to lt le has = ap Ok (told window_sets x (within from to) (within-le from to) has) ∙ sym (cond-true _ _ _ (is_run_when 128 from to lt le))

pub returns : goal.returns
returns c =
    let made = c.in_ok-runs.ensures.contents in
    let from = ap (λ r. r.from) made.0 in
    let to = ap (λ r. r.to) made.0 in
    record {
      answer = is_made _ _ _ made.1 made.2 (λ k h. run_covers _ _ _ k (omega arith) (omega arith));
      contents = λ k h. run_covers _ _ _ k (omega arith) (omega arith);
    }
