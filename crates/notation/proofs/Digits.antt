-- What a loop over digits knows of `number`.
use Rattle.std.proofs.Common.{◌≡◌, ℕ, zero, suc, ◌+◌, ◌-◌, ◌*◌, ◌^◌, ◌<◌, ◌≤◌, true, false, ltb, List, [], ◌∷◌, length, get_or, take, Some, None, Ok, Err, Result, ap, ◌∙◌, arith}
use Rattle.std.proofs.lemmas.Int.Digits.{digits_value_more, digits_more}
use Rattle.std.proofs.lemmas.List.{length-take, take_all}
use Rattle.std.proofs.lemmas.Str.Parse.{IsNumeralModel, numerals_by_value, tells_all_ascii_digits, tells_digits, digits_value_short}
use Rattle.std.proofs.lemmas.Bool.{and_left, and_right, le-leb, lt-ltb}
use Rattle.std.proofs.lemmas.Str.{digit_value_digit}
use Rattle.std.proofs.lemmas.Bool.Decides.{nat_tests}
use Rattle.std.specs.Result.{OkIff, result_ok}
use Rattle.std.specs.Bool.{then_some}
use Rattle.std.specs.Str.Parse.{AllDigits, digits_value}
use Rattle.std.specs.Int.{IsInRange}
use Rattle.std.specs.Char.{is_ascii_digit}
use Rattle.std.specs.Str.{all_ascii_digits}
use Rattle.notation.specs.Numbers.{number}

-- `all_ascii_digits` tells digits
pub own : IsNumeralModel (λ ds. all_ascii_digits ds ≡ true) (digits_value 10)
own = numerals_by_value _ tells_all_ascii_digits

-- one byte that is no digit
not_all_digits : (bs : List ℕ) (i : ℕ) → i < length bs → is_ascii_digit (get_or bs i 0) ≡ false → all_ascii_digits bs ≡ false
not_all_digits [] i lt no_digit = absurd (omega arith)
not_all_digits (b ∷ bs) zero lt no_digit = and_left _ _ no_digit
not_all_digits (b ∷ bs) (suc i) lt no_digit = and_right _ _ (not_all_digits bs i (omega arith) no_digit)

-- fewer than ten digits leave room for one more
pub room : (bs : List ℕ) (i : ℕ) → AllDigits 10 (take i bs) → i < 10 → digits_value 10 (take i bs) < 10 ^ 9
room bs i ds few = digits_value_short (numerals_by_value _ tells_digits) (take i bs) 9 ds (simp length-take (omega arith))

-- one digit more
pub more_digits : (bs : List ℕ) (i v d : ℕ)
    → i < length bs → (v ≡ digits_value 10 (take i bs)) × AllDigits 10 (take i bs) → IsInRange 48 57 (get_or bs i 0) → d ≡ get_or bs i 0 - 48
    → (v * 10 + d ≡ digits_value 10 (take (i + 1) bs)) × AllDigits 10 (take (i + 1) bs)
more_digits bs i v d lt so_far digit is =
    let worth = digit_value_digit (get_or bs i 0) digit in (
      rw (digits_value_more 10 bs i lt, ← so_far.0) (omega arith),
      digits_more 10 bs i lt so_far.1 (omega arith),
    )

-- bytes with one that is no digit write no number
pub no_number : (bs : List ℕ) (i : ℕ) → i < length bs → is_ascii_digit (get_or bs i 0) ≡ false → None ≡ number bs
no_number bs i lt no_digit = let off = not_all_digits bs i lt no_digit in grind (arith, nat_tests)

-- the value that fits 32 bits, or none
fitting : {E : Type 0} (n v : ℕ) (r : Result ℕ E)
    → n ≡ v → OkIff r (n < 2 ^ 32) n → result_ok r ≡ then_some (ltb v (2 ^ 32)) v
fitting n v (Ok x) is got = rw (lt-ltb v (2 ^ 32) (omega arith)) (ap Some (got.1 ∙ is))
fitting n v (Err e) is got = grind (arith, nat_tests)

-- after the last digit
pub whole-number : {E : Type 0} (bs : List ℕ) (i n : ℕ) (r : Result ℕ E)
    → 0 < length bs → length bs ≤ 10 → length bs ≤ i → (n ≡ digits_value 10 (take i bs)) × AllDigits 10 (take i bs)
    → OkIff r (n < 2 ^ 32) n → result_ok r ≡ number bs
whole-number bs i n r some few done so_far got =
    let digits : AllDigits 10 bs = rw take_all at so_far.1 in
    let worth : n ≡ digits_value 10 bs = rw take_all at so_far.0 in
    rw (le-leb 1 (length bs) some, le-leb (length bs) 10 few, own.from bs digits) (fitting n (digits_value 10 bs) r worth got)
