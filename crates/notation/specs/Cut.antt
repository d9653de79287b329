-- Bytes cut at a mark, and an input cut into lines. Assumes nothing.
use Rattle.std.specs.Prelude.{ℕ, cond, List, [], ◌∷◌, ◌==◌}

-- b in front of the first piece
abbrev pub on_first : ℕ → List (List ℕ) → List (List ℕ)
on_first b [] = []
on_first b (p ∷ ps) = (b ∷ p) ∷ ps

-- what stands between the marks: one piece more than there are marks
abbrev pub pieces : ℕ → List ℕ → List (List ℕ)
pieces mark [] = [] ∷ []
pieces mark (b ∷ bs) = cond (b == mark) ([] ∷ pieces mark bs) (on_first b (pieces mark bs))

-- the pieces but for the last, if that is empty
abbrev pub without_last_empty : List (List ℕ) → List (List ℕ)
without_last_empty [] = []
without_last_empty ([] ∷ []) = []
without_last_empty ((b ∷ bs) ∷ []) = (b ∷ bs) ∷ []
without_last_empty (p ∷ q ∷ ps) = p ∷ without_last_empty (q ∷ ps)

-- the lines of an input, each ended by byte 10, or the last by the input's end
abbrev pub lines : List ℕ → List (List ℕ)
lines bs = without_last_empty (pieces 10 bs)
