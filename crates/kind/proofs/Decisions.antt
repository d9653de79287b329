-- Facts that depend on a test, from the two ways of the test.
use Rattle.std.proofs.Common.{◌≡◌, ℕ, ◌≤◌, Bool, true, false, cond, Decides, MatchBool, refl, ⊎_elim, arith}
use mathlib.Core.Bool.{beq}
use Rattle.std.proofs.lemmas.Bool.{true≢false, false≢true, cases_eq}

pub pick : (b : Bool) (P Q : Type 0) → (b ≡ true → P) → (b ≡ false → Q) → MatchBool b P Q
pick true P Q p q = p refl
pick false P Q p q = q refl

pub not_so : (b : Bool) → (b ≡ true → ⊥) → false ≡ b
not_so true h = absurd (h refl)
not_so false h = refl

pub same_test : (t b : Bool) → beq t b ≡ true → t ≡ b
same_test true true e = refl
same_test true false e = absurd (false≢true e)
same_test false true e = absurd (false≢true e)
same_test false false e = refl

pub other_test : (t b : Bool) → beq t b ≡ false → t ≡ b → ⊥
other_test true true e h = true≢false e
other_test true false e h = true≢false h
other_test false true e h = false≢true h
other_test false false e h = true≢false e

-- two tests of one fact
pub agree : {P : Type 0} (t b : Bool) → Decides t P → Decides b P → t ≡ b
agree true true d k = refl
agree true false d k = absurd (false≢true (k.1 (d.0 refl)))
agree false true d k = absurd (false≢true (d.1 (k.0 refl)))
agree false false d k = refl

-- a digit that a test tells
pub digit_is : (b : Bool) (v : ℕ) → v ≤ 1 → Decides b (v ≡ 1) → v ≡ cond b 1 0
digit_is true v le d = d.0 refl
digit_is false v le d = ⊎_elim (λ (e : v ≡ 1). absurd (false≢true (d.1 e))) (λ (ne : v ≡ 1 → ⊥). omega (arith, ne)) (cases_eq v 1)

-- the other digit, where the test is not the one that was asked for
pub other_digit : (b w : Bool) (v : ℕ) → v ≡ cond b 1 0 → beq b w ≡ false → v ≡ cond w 0 1
other_digit true true v is e = absurd (true≢false e)
other_digit true false v is e = is
other_digit false true v is e = is
other_digit false false v is e = absurd (true≢false e)
