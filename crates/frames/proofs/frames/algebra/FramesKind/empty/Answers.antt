use Rattle.std.proofs.Common.{◌≡◌, ℕ, ◌<◌, true, ltb, List, length, get_or, sym, ◌∙◌, ⊎_elim, rules, arith}
use Rattle.std.proofs.lemmas.Bool.{cases_Bool, ltb-true, true≢false}
use Rattle.std.proofs.lemmas.List.Folds.{list_all_at}
use Rattle.std.specs.List.{list_all}
use Rattle.sets.specs.Bytes.{Bytes, binary, bytes_of}
use Rattle.frames.specs.FrameFacts.{same_data}
use Rattle.frames.proofs.frames.algebra.FramesKind.empty.Goals as goal

-- numbers that are tested one by one are bytes
tested : (bs : List ℕ) → list_all (λ b. ltb b 256) bs ≡ true → (i : ℕ) → i < length bs → get_or bs i 0 < 256
tested bs e i h =
    ⊎_elim
    (λ (t : ltb (get_or bs i 0) 256 ≡ true). ltb-true _ _ t)
    (λ f. absurd (true≢false (sym e ∙ list_all_at (λ b. ltb b 256) bs i 0 h f)))
    (cases_Bool (ltb (get_or bs i 0) 256))

are_bytes : (bs : List ℕ) → length bs ≡ 32 → list_all (λ b. ltb b 256) bs ≡ true → Bytes 32 bs
are_bytes bs long e = (long, λ i h. tested bs e i (omega (arith, long)))

pub invariant_of-result : goal.invariant_of-result
invariant_of-result c = search (rules, are_bytes)

pub returns : goal.returns
unfolding bytes_of binary
returns c = search (rules, same_data)
