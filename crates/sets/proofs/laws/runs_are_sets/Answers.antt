use Rattle.sets.proofs.Covering.{same_runs}
use Rattle.sets.proofs.Places.{tidy_places}
use Rattle.sets.proofs.Scans.{places_keep, places_cover}
use Rattle.sets.proofs.laws.runs_are_sets.Goals as goal

pub returns : goal.returns
returns c = record {
  keep = λ n m room f. (places_keep n m room f, places_cover n m room f);
  differ = λ n m xs ys tx ty. same_runs n m xs ys (tidy_places n m xs tx) (tidy_places n m ys ty);
}
