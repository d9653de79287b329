-- Bytes that are read as text.
use Rattle.std.proofs.Common.{◌≡◌, ℕ, List, Some, Ok, Err, IsUtf8, Result, ap, Bor, MatchResult}
use Rattle.std.specs.Option.{option_map}
use Rattle.std.specs.Result.{result_ok}

-- bytes that are text are read as themselves
pub read_text : {E : Type 0} (r : Result (Bor (List ℕ)) E) (bs : List ℕ) (Q : E → Type 0) → MatchResult r (λ s. (s.now ≡ bs) × IsUtf8 bs) (λ e. (IsUtf8 bs → ⊥) × Q e) → IsUtf8 bs
    → option_map (λ x. x.now) (result_ok r) ≡ Some bs
read_text (Ok s) bs Q h u = ap Some h.0
read_text (Err e) bs Q h u = absurd (h.0 u)
