-- The ends of runs, `from` and `to` by turns: what a walk over runs reads and writes. Assumes nothing.
use Rattle.std.specs.Prelude.{ℕ, suc, ◌/◌, ◌%◌, cond, List, ◌==◌, slice_index_or}
use Rattle.sets.specs.Runs.{blank}
use Rattle.sets.specs.declared.run.Run.{Run}

-- the run in place p, unused past the last place
abbrev pub place : List Run → ℕ → Run
place rs p = slice_index_or rs p blank

-- end i as the places hold it, unused places too
unfoldable pub end_in_place : List Run → ℕ → ℕ
end_in_place rs i = cond (i % 2 == 0) (place rs (i / 2)).from (place rs (i / 2)).to

-- end i of the runs of numbers below n; past the last run, n + 1
unfoldable pub end_of : ℕ → List Run → ℕ → ℕ
end_of n rs i = cond ((place rs (i / 2)).to == 0) (suc n) (end_in_place rs i)
