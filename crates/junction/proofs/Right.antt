-- What a verdict says is so.
use Rattle.std.proofs.Common.{◌≡◌, ℕ, ◌+◌, ◌<◌, ◌≤◌, Bool, true, false, cond, ◌&&◌, Some, None, MatchOption, Option, Ok, Err, sym, refl, subst, ◌∙◌, ⊎_elim, arith}
use Rattle.std.proofs.lemmas.Bool.{true≢false, and_parts, and_from, leb-false, cases_lt, cond-true, cond-false}
use Rattle.count.specs.Counts.{count_answers}
use Rattle.frames.specs.FrameSets.{frame, frames_answers}
use Rattle.frames.specs.declared.frames.Frames.{Frames}
use Rattle.frames.specs.FrameFacts as frame-facts
use Rattle.windows.specs.WindowSets.{window, windows_answers}
use Rattle.windows.specs.declared.windows.Windows.{Windows}
use Rattle.windows.specs.WindowFacts as window-facts
use Rattle.sets.proofs.Answering.{is-apart, not-apart}
use Rattle.sets.proofs.Unions.{Sets}
use Rattle.sets.specs.Members.{apart}
use Rattle.kind.proofs.Decisions.{not_so}
use Rattle.kinds.specs.Engine.{Engine, engine_answers}
use Rattle.junction.specs.Verdicts.{first_shared, clear_of, verdict, held_after, Right}
use Rattle.junction.specs.declared.conflict.Conflict.{Conflict}
use Rattle.junction.specs.declared.conflict.Conflict.TheVariants.{TooManyVehicles, FrameHeld, SecondHeld}
use Rattle.junction.proofs.Shared.{shared_found}

-- sets that share no number are apart, and sets that share one are not
shared-apart : {A : Type 0} {n : ℕ} {at : A → ℕ → ℕ} {of : (ℕ → ℕ) → A} → Sets n at of → (x y : A)
    → MatchOption (first_shared n (at x) (at y)) (apart n at x y ≡ true) (λ k. (apart n at x y ≡ false) × (k < n) × (at x k ≡ 1) × (at y k ≡ 1))
shared-apart {A} {n} {at} {of} sets x y = by (first_shared n (at x) (at y)) (shared_found n (at x) (at y))
  where
    by : (r : Option ℕ) → MatchOption r ((k : ℕ) → k < n → at x k ≡ 1 → at y k ≡ 1 → ⊥) (λ k. (k < n) × (at x k ≡ 1) × (at y k ≡ 1))
        → MatchOption r (apart n at x y ≡ true) (λ k. (apart n at x y ≡ false) × (k < n) × (at x k ≡ 1) × (at y k ≡ 1))
    by None none =
        sym (is-apart sets x y (λ k l. ⊎_elim
        (λ (lt : 1 < at x k + at y k). absurd (none k l (omega (arith, sets.one x k, sets.one y k)) (omega (arith, sets.one x k, sets.one y k))))
        (λ (le : at x k + at y k ≤ 1). le)
        (cases_lt 1 (at x k + at y k))))
    by (Some k) w = (sym (not-apart sets x y (λ h. omega (arith, h k w.0, w.1, w.2))), w.0, w.1, w.2)

-- sets that are apart share no number
none-shared : {A : Type 0} {n : ℕ} {at : A → ℕ → ℕ} {of : (ℕ → ℕ) → A} → Sets n at of → (x y : A) → apart n at x y ≡ true → first_shared n (at x) (at y) ≡ None
none-shared {A} {n} {at} {of} sets x y e = by (first_shared n (at x) (at y)) (shared-apart sets x y)
  where
    by : (r : Option ℕ) → MatchOption r (apart n at x y ≡ true) (λ k. (apart n at x y ≡ false) × (k < n) × (at x k ≡ 1) × (at y k ≡ 1)) → r ≡ None
    by None none = refl
    by (Some k) w = absurd (true≢false (sym e ∙ w.0))

pub no_shared_frame : (x y : Frames) → frames_answers.fits x y ≡ true → first_shared 256 (frame x) (frame y) ≡ None
no_shared_frame = none-shared frame-facts.frame_sets

pub no_shared_second : (x y : Windows) → windows_answers.fits x y ≡ true → first_shared 128 (window x) (window y) ≡ None
no_shared_second = none-shared window-facts.window_sets

module _ (held a : Engine) where
  abbrev vehicles : Bool
  vehicles = count_answers.fits held.first a.first

  abbrev frames : Bool
  frames = frames_answers.fits held.second.first a.second.first

  abbrev seconds : Bool
  seconds = windows_answers.fits held.second.second a.second.second

  -- the three questions, each as it came out
  by : (v : Bool) (f s : Option ℕ) → vehicles ≡ v
      → MatchOption f (frames ≡ true) (λ k. (frames ≡ false) × (k < 256) × (frame held.second.first k ≡ 1) × (frame a.second.first k ≡ 1))
      → MatchOption s (seconds ≡ true) (λ k. (seconds ≡ false) × (k < 128) × (window held.second.second k ≡ 1) × (window a.second.second k ≡ 1))
      → Right held a (cond v (clear_of FrameHeld f (clear_of SecondHeld s (Ok tt))) (Err TooManyVehicles))
  by false f s p q r = (λ e. true≢false (sym (and_parts vehicles (frames && seconds) e).0 ∙ p), leb-false _ _ p)
  by true (Some k) s p q r = (λ e. true≢false (sym (and_parts frames seconds (and_parts vehicles (frames && seconds) e).1).0 ∙ q.0), (q.1, q.2, q.3))
  by true None (Some k) p q r = (λ e. true≢false (sym (and_parts frames seconds (and_parts vehicles (frames && seconds) e).1).1 ∙ r.0), (r.1, r.2, r.3))
  by true None None p q r = and_from _ _ p (and_from _ _ q r)

  pub right : Right held a (verdict held a)
  right = by vehicles _ _ refl (shared-apart frame-facts.frame_sets held.second.first a.second.first) (shared-apart window-facts.window_sets held.second.second a.second.second)

-- what is held after a stage that is added, and after one that is not
pub added : (held a : Engine) → Ok tt ≡ verdict held a → engine_answers.join held a ≡ held_after held a
added held a e = sym (cond-true _ _ _ (subst (Right held a) (sym e) (right held a)))

pub refused : (held a : Engine) (c : Conflict) → Err c ≡ verdict held a → held ≡ held_after held a
refused held a c e = sym (cond-false _ _ _ (sym (not_so _ (subst (Right held a) (sym e) (right held a)).0)))
