-- The table of the lowest bits of a byte.
use Rattle.std.proofs.Common.{◌≡◌, ℕ, ◌-◌, ◌^◌, ◌≤◌, eqb, List, [], ◌∷◌, get_or, refl, arith}
use Rattle.sets.specs.Members.{all_below}
use Rattle.sets.proofs.Unions.{all_decides}
use Rattle.std.proofs.lemmas.Bool.Decides.{Decides-eqb}

pub low_table : (n : ℕ) → n ≤ 8 → get_or (0 ∷ 1 ∷ 3 ∷ 7 ∷ 15 ∷ 31 ∷ 63 ∷ 127 ∷ 255 ∷ []) n 0 ≡ 2 ^ n - 1
unfolding all_below
low_table n h =
    let low : List ℕ = 0 ∷ 1 ∷ 3 ∷ 7 ∷ 15 ∷ 31 ∷ 63 ∷ 127 ∷ 255 ∷ [] in
    (all_decides 9 (λ m. eqb (get_or low m 0) (2 ^ m - 1)) (λ m. get_or low m 0 ≡ 2 ^ m - 1) (λ m. Decides-eqb _ _)).0 refl n (omega arith)
