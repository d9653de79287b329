use Rattle.std.proofs.Common.{◌≡◌, ◌+◌, ◌-◌, ◌%◌, true, eqb, ◌++◌, length, replicate, refl, ap, ◌∙◌, arith}
use Rattle.std.proofs.lemmas.Bool.Decides.{nat_tests, Decides-eqb}
use Rattle.sets.specs.Members.{all_below}
use Rattle.sets.specs.Runs.{blank, within, covered, put_before, runs_from, in_places}
use Rattle.sets.proofs.Firsts.{one_run}
use Rattle.sets.proofs.Unions.{all_decides}
use Rattle.windows.specs.WindowSets.{window, Unites}
use Rattle.windows.specs.declared.windows.Windows.{Windows}
use Rattle.windows.specs.WindowFacts.{one, made, runs_made}
use Rattle.examples.specs.Examples.{Made, CountsAdd, RunsUnite, EvensAndOdds, seconds}
use Rattle.examples.proofs.Alternating.{alternate}
use Rattle.examples.proofs.examples_hold.Goals as goal

-- z is the union of x and y, by a test of each second
unites : (x y z : Windows) → all_below 128 (λ k. eqb (window x k + window y k) (window z k)) ≡ true → Unites x y z
unites x y z e = (all_decides 128 _ (λ k. window x k + window y k ≡ window z k) (λ k. Decides-eqb _ _)).0 e

are_made : Made
unfolding runs_from
are_made = (refl, refl, refl)

counts-add : CountsAdd
counts-add = (refl, λ z p. omega (arith, z.capped, p))

runs_unite : RunsUnite
unfolding covered put_before runs_from in_places all_below
runs_unite = (
  unites (seconds 0 10) (seconds 10 20) (seconds 0 20) refl,
  refl,
  refl,
  λ z p. omega (arith, one z 9, p 9 (omega arith)),
)

evens-and-odds : EvensAndOdds
unfolding in_places
evens-and-odds = (
  ap (λ rs. rs ++ replicate (64 - length rs) blank) (alternate 64 0),
  ap length (runs_made (λ j. 1 - j % 2) ∙ alternate 64 0),
  λ k h.
      let all : within 0 128 k ≡ 1 = grind (arith, nat_tests) in
      omega (arith, made (λ j. 1 - j % 2) k h, made (λ j. j % 2) k h, made (within 0 128) k h),
  runs_made (within 0 128) ∙ one_run 128 0 128 (omega arith) (omega arith),
)

pub returns : goal.returns
returns c = (are_made, counts-add, runs_unite, evens-and-odds)
