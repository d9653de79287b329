-- What a closure answers, and what a pass over a table leaves. Assumes nothing.
use Rattle.std.specs.Prelude.{◌≡◌, ℕ, Bool, cond, List, map}
use Rattle.std.specs.Borrow.{Bor}
use denote.Param.Members.{Shared}
use Rattle.tables.specs.Rows.{how_many}

-- f tells what the closure answers about each value lent to it
abbrev pub Tells : {F X Y : Type 0} → Shared F (Bor X × Unit {0}) Y → F → (X → Y) → Type 0
Tells {F} {X} {Y} g c f = (x : Bor X) (y : Y) → g.post c (x, tt) y → y ≡ f x.now

-- of the rows xs those that pass the test were changed, and counted; the table now has the rows ys
pub record Rewritten {X : Type 0} (test : X → Bool) (change : X → X) (xs ys : List X) (count : ℕ) : Type 0 where
  pub counts : count ≡ how_many test xs
  pub rows : ys ≡ map (λ x. cond (test x) (change x) x) xs
