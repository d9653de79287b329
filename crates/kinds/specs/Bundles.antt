-- Bundles: pairs of amounts, each side by itself. Assumes nothing.
use Rattle.std.specs.Prelude.{Bool, cond, ◌&&◌}
use Rattle.kind.specs.Algebra.{Answers}
use Rattle.kinds.specs.declared.bundle.Bundle.{Bundle}

module _ {A B : Type 0} where
  abbrev pub both : A → B → Bundle A B
  both a b = record { first = a; second = b }

  -- two bundles make a third if both sides do
  abbrev pub BothMake : (A → A → A → Type 0) → (B → B → B → Type 0) → Bundle A B → Bundle A B → Bundle A B → Type 0
  BothMake f g x y z = f x.first y.first z.first × g x.second y.second z.second

  -- a test of both sides
  abbrev pub both_pass : (A → A → Bool) → (B → B → Bool) → Bundle A B → Bundle A B → Bool
  both_pass f g x y = f x.first y.first && g x.second y.second

  -- an answer on each side
  abbrev pub each_side : (A → A → A) → (B → B → B) → Bundle A B → Bundle A B → Bundle A B
  each_side h k x y = both (h x.first y.first) (k x.second y.second)

  abbrev pub bundle_answers : Answers A → Answers B → Answers (Bundle A B)
  bundle_answers p q =
      let empty = both p.empty q.empty in
      record {
        empty = empty;
        is_empty = λ x. p.is_empty x.first && q.is_empty x.second;
        fits = both_pass p.fits q.fits;
        join = λ x y. cond (both_pass p.fits q.fits x y) (each_side p.join q.join x y) empty;
        holds = both_pass p.holds q.holds;
        remainder = λ z x. cond (both_pass p.holds q.holds z x) (each_side p.remainder q.remainder z x) empty;
      }
