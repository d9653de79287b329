use Rattle.std.proofs.Common.{refl}
use Rattle.sets.specs.Runs.{all_blank, ordered, runs_from, in_places}
use Rattle.windows.specs.WindowFacts.{same_data}
use Rattle.windows.proofs.windows.algebra.WindowsKind.empty.Goals as goal

pub invariant_of-result : goal.invariant_of-result
unfolding ordered all_blank
invariant_of-result c = record { sound = refl }

pub returns : goal.returns
unfolding runs_from in_places
returns c = same_data _ _ refl
