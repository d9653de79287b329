-- Joins and remainders of the engine's bundle are what its sides make.
use Rattle.std.proofs.Common.{◌≡◌, ◌-◌, true, sym, subst, arith}
use Rattle.std.proofs.lemmas.Bool.{and_parts, cond-true, leb-true}
use Rattle.std.proofs.lemmas.Bool.Decides.{when_true}
use Rattle.kind.specs.Algebra.{Answers, GivesJoin, GivesRemainder}
use Rattle.count.specs.Counts.{Sums, count_answers}
use Rattle.count.specs.Same.{within_top_in}
use Rattle.frames.specs.FrameSets.{frames_answers, Unites as FramesUnite}
use Rattle.frames.specs.declared.frames.Frames.{Frames}
use Rattle.frames.specs.FrameFacts as frame-facts
use Rattle.windows.specs.WindowSets.{windows_answers, Unites as WindowsUnite}
use Rattle.windows.specs.declared.windows.Windows.{Windows}
use Rattle.windows.specs.WindowFacts as window-facts
use Rattle.kinds.specs.Bundles.{BothMake, bundle_answers}
use Rattle.kinds.specs.declared.bundle.Bundle.{Bundle}
use Rattle.sets.proofs.Unions as unions
use Rattle.kinds.specs.Engine.{EngineMakes, engine_answers}

-- what fits makes its join, and what is held leaves its remainder
abbrev pub Joins : {A : Type 0} → (A → A → A → Type 0) → Answers A → Type 0
Joins {A} makes q = (x y : A) → q.fits x y ≡ true → makes x y (q.join x y)

abbrev pub Leaves : {A : Type 0} → (A → A → A → Type 0) → Answers A → Type 0
Leaves {A} makes q = (z x : A) → q.holds z x ≡ true → makes x (q.remainder z x) z

module _ {A B : Type 0} (f : A → A → A → Type 0) (g : B → B → B → Type 0) (p : Answers A) (q : Answers B) where
  bundle_joins : Joins f p → Joins g q → Joins (BothMake f g) (bundle_answers p q)
  bundle_joins j k x y e =
      let h = and_parts (p.fits x.first y.first) (q.fits x.second y.second) e in
      subst (BothMake f g x y) (sym (cond-true _ _ _ e)) (j x.first y.first h.0, k x.second y.second h.1)

  bundle_leaves : Leaves f p → Leaves g q → Leaves (BothMake f g) (bundle_answers p q)
  bundle_leaves j k z x e =
      let h = and_parts (p.holds z.first x.first) (q.holds z.second x.second) e in
      subst (λ y. BothMake f g x y z) (sym (cond-true _ _ _ e)) (j z.first x.first h.0, k z.second x.second h.1)

lawful_joins : {A : Type 0} (makes : A → A → A → Type 0) (q : Answers A) → GivesJoin makes q → Joins makes q
lawful_joins makes q law x y e = when_true _ _ e (law x y)

lawful_leaves : {A : Type 0} (makes : A → A → A → Type 0) (q : Answers A) → GivesRemainder makes q → Leaves makes q
lawful_leaves makes q law z x e = when_true _ _ e (law z x)

count_joins : Joins Sums count_answers
count_joins x y e = sym (within_top_in _ (leb-true _ _ e))

count_leaves : Leaves Sums count_answers
count_leaves z x e = omega (arith, leb-true _ _ e, within_top_in (z.value - x.value) (omega (arith, z.capped)))

-- the engine's bundle is a bundle with a bundle
abbrev InnerMake : Bundle Frames Windows → Bundle Frames Windows → Bundle Frames Windows → Type 0
InnerMake = BothMake FramesUnite WindowsUnite

abbrev inner_answers : Answers (Bundle Frames Windows)
inner_answers = bundle_answers frames_answers windows_answers

pub engine_joins : Joins EngineMakes engine_answers
engine_joins =
    bundle_joins Sums InnerMake count_answers inner_answers count_joins
    (bundle_joins FramesUnite WindowsUnite frames_answers windows_answers
    (lawful_joins FramesUnite frames_answers (unions.gives_join frame-facts.frame_sets))
    (lawful_joins WindowsUnite windows_answers (unions.gives_join window-facts.window_sets)))

pub engine_leaves : Leaves EngineMakes engine_answers
engine_leaves =
    bundle_leaves Sums InnerMake count_answers inner_answers count_leaves
    (bundle_leaves FramesUnite WindowsUnite frames_answers windows_answers
    (lawful_leaves FramesUnite frames_answers (unions.gives_remainder frame-facts.frame_sets))
    (lawful_leaves WindowsUnite windows_answers (unions.gives_remainder window-facts.window_sets)))
