-- Amounts joined one after another. Assumes nothing.
use Rattle.std.specs.Prelude.{◌≡◌, List, [], ◌∷◌}

module _ {A : Type 0} (makes : A → A → A → Type 0) where
  -- u and the amounts xs make w, each amount joined to what those before it made
  abbrev pub JoinsOn : A → List A → A → Type 0
  JoinsOn u [] w = u ≡ w
  JoinsOn u (x ∷ xs) w = (v : A) × (makes u x v × JoinsOn v xs w)
