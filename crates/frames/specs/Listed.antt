-- The first run of a set from a number on.
use Rattle.std.specs.Prelude.{◌≡◌, ℕ, ◌-◌, ◌<◌, ◌≤◌, [], ◌∷◌, Option, MatchOption}
use Rattle.frames.specs.Sizes.{frame_count}
use Rattle.sets.specs.Runs.{runs_from}
use Rattle.sets.specs.declared.run.Run.{Run}

-- r is the first run of the numbers from k on at which f is not 0, and the other runs are those from its end on
abbrev pub FirstRun : (ℕ → ℕ) → ℕ → Option Run → Type 0
FirstRun f k r =
    MatchOption r (runs_from f (frame_count - k) k ≡ [])
    (λ x. (k < x.to) × (x.to ≤ frame_count) × (runs_from f (frame_count - k) k ≡ x ∷ runs_from f (frame_count - x.to) x.to))
