-- The pieces that a cursor has yet to give, and how one is given, taken and read. Assumes nothing.
use Rattle.std.specs.Prelude.{◌≡◌, ℕ, List, [], ◌∷◌, Some, None, Option, MatchOption}
use Rattle.std.specs.Borrow.{Bor}
use Rattle.notation.specs.declared.pieces.Pieces.{Pieces}
use Rattle.notation.specs.Cut.{pieces}

-- the pieces of the bytes after a mark, if there was one
abbrev pub after : ℕ → Option (Bor (List ℕ)) → List (List ℕ)
after mark None = []
after mark (Some bs) = pieces mark bs.now

-- the pieces that p has yet to give
abbrev pub left : Pieces → List (List ℕ)
left p = after p.mark p.rest

-- r is the first of the pieces ps, if there is one, and qs are the others
abbrev pub Gave : List (List ℕ) → Option (Bor (List ℕ)) → List (List ℕ) → Type 0
Gave ps r qs = MatchOption r ((ps ≡ []) × (qs ≡ [])) (λ p. ps ≡ p.now ∷ qs)

-- the first piece as it is read, if there is one
abbrev pub first_read : {X : Type 0} → (List ℕ → Option X) → List (List ℕ) → Option X
first_read read [] = None
first_read read (p ∷ ps) = read p

-- the pieces after the first
abbrev pub others : List (List ℕ) → List (List ℕ)
others [] = []
others (p ∷ ps) = ps

-- the first of the pieces ps was taken and read as r, and qs are the others
pub record Took {X : Type 0} (read : List ℕ → Option X) (ps : List (List ℕ)) (r : Option X) (qs : List (List ℕ)) : Type 0 where
  pub value : r ≡ first_read read ps
  pub rest : qs ≡ others ps
