-- The places that runs take up: those before the first unused one.
use Rattle.std.proofs.Common.{◌≡◌, ℕ, zero, suc, ltb, Bool, List, [], ◌∷◌, ◌++◌, replicate, refl, ap, ◌∙◌, arith}
use Rattle.std.proofs.lemmas.Bool.{lt-ltb}
use Rattle.std.proofs.lemmas.List.Sums.{take_while-cons}
use Rattle.std.specs.List.{take_while}
use Rattle.sets.specs.Runs.{blank}
use Rattle.sets.specs.declared.run.Run.{Run}
use Rattle.sets.proofs.Scans.{Runs}

-- does a run stand in the place?
abbrev pub is_used : Run → Bool
is_used r = ltb 0 r.to

-- the places in use hold the runs
pub used_runs : (n low j : ℕ) (rs : List Run) → Runs n low rs → take_while is_used (rs ++ replicate j blank) ≡ rs
used_runs n low zero [] h = refl
used_runs n low (suc j) [] h = refl
used_runs n low j (r ∷ rs) h =
    take_while-cons is_used r (rs ++ replicate j blank) ∙ rw (lt-ltb 0 r.to (omega (arith, h.1))) (ap (λ l. r ∷ l) (used_runs n (suc r.to) j rs h.3))
