-- That some bundle has two facts, one of each side, is told by a test of each side.
use Rattle.std.specs.Prelude.{Bool, ◌&&◌, Decides}
use Rattle.std.proofs.lemmas.Bool.{and_parts, and_from}
use Rattle.kinds.specs.declared.bundle.Bundle.{Bundle}

pub sides_tell : {A B : Type 0} (b c : Bool) (P : A → Type 0) (Q : B → Type 0) → Decides b ((x : A) × P x) → Decides c ((y : B) × Q y)
    → Decides (b && c) ((z : Bundle A B) × (P z.first × Q z.second))
sides_tell b c P Q d k = (
  λ e. let t = and_parts b c e in
      let x = d.0 t.0 in
      let y = k.0 t.1 in
      (record { first = x.0; second = y.0 }, (x.1, y.1)),
  λ h. and_from b c (d.1 (h.0.first, h.1.0)) (k.1 (h.0.second, h.1.1)),
)
