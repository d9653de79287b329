-- How pieces are read from left to right: `next` reads one and hands it on with those after it, and `end` takes no more. Assumes nothing.
use Rattle.std.specs.Prelude.{ℕ, List, [], ◌∷◌, Some, None, Option}

-- k of what was read, if anything was
abbrev pub go_on : {X Y : Type 0} → Option X → (X → Option Y) → Option Y
go_on None k = None
go_on (Some x) k = k x

-- the first piece as it is read, and then k of it and the pieces after it
abbrev pub next : {X Y : Type 0} → (List ℕ → Option X) → (X → List (List ℕ) → Option Y) → List (List ℕ) → Option Y
next read k [] = None
next read k (p ∷ ps) = go_on (read p) (λ x. k x ps)

-- y, if no piece is left
abbrev pub end : {Y : Type 0} → Y → List (List ℕ) → Option Y
end y [] = Some y
end y (p ∷ ps) = None
