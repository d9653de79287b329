-- A full cycle holds all that can be held.
use Rattle.std.proofs.Common.{◌≡◌, ℕ, true, sym, arith}
use Rattle.std.proofs.lemmas.Bool.{and_from, le-leb}
use Rattle.std.proofs.lemmas.Bool.Decides.{nat_tests}
use Rattle.count.specs.Top.{top}
use Rattle.frames.specs.FrameFacts as frame-facts
use Rattle.windows.specs.WindowFacts as window-facts
use Rattle.sets.specs.Members.{covers}
use Rattle.sets.specs.Runs.{within}
use Rattle.sets.proofs.Answering.{is-covers}
use Rattle.sets.proofs.Unions.{Sets}
use Rattle.kinds.specs.Engine.{Engine, EngineMakes}
use Rattle.kinds.proofs.EngineFacts.{engine_leaves}
use Rattle.plan.specs.Reports.{full_cycle, left_over}

-- the set of all numbers covers each set
all_cover : {A : Type 0} {n : ℕ} {at : A → ℕ → ℕ} {of : (ℕ → ℕ) → A} (sets : Sets n at of) (x : A) → covers n at (of (within 0 n)) x ≡ true
all_cover {A} {n} {at} {of} sets x =
    sym (is-covers sets (of (within 0 n)) x (λ k h.
    let all : within 0 n k ≡ 1 = grind (arith, nat_tests) in
    omega (arith, sets.one x k, sets.made (within 0 n) k h)))

pub full_leaves : (held : Engine) → EngineMakes held (left_over held) full_cycle
full_leaves held =
    engine_leaves full_cycle held
    (and_from _ _ (le-leb held.first.value top held.first.capped)
    (and_from _ _ (all_cover frame-facts.frame_sets held.second.first) (all_cover window-facts.window_sets held.second.second)))
