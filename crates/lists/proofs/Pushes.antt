-- What a push onto a list with room leaves.
use Rattle.std.proofs.Common.{◌≡◌, ℕ, ◌<◌, List, [], ◌∷◌, ◌++◌, length, Ok, Err, Result, arith}
use Rattle.std.specs.Result.{MatchResult}

pub pushed : {T E U : Type 0} {n : ℕ} (xs ys : List T) (x : T) (P : Type 0) (r : Result U E)
    → MatchResult r (λ _. (length xs < n) × (ys ≡ xs ++ (x ∷ []))) (λ _. (length xs ≡ n) × P) → length xs < n → ys ≡ xs ++ (x ∷ [])
pushed xs ys x P (Ok u) done room = done.1
pushed xs ys x P (Err e) full room = absurd (omega (arith, full.0))
