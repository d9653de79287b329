-- Numbers and spans that are written are read as themselves.
use Rattle.std.proofs.Common.{◌≡◌, ℕ, ◌^◌, ◌<◌, false, List, [], ◌∷◌, length, Some, None, codes, decimal, refl, ap, ⊎_elim, arith}
use Rattle.std.proofs.lemmas.Fmt.{decimal_nonempty, length-decimal-le, digits_decimal, digits_value-decimal}
use Rattle.std.proofs.lemmas.Slice.Eq.{bytes_eq-Decides}
use Rattle.std.proofs.lemmas.List.{length-append}
use Rattle.std.proofs.lemmas.Str.Parse.{not_in_digits}
use Rattle.std.proofs.lemmas.Bool.{le-leb, lt-ltb, cases_Bool}
use Rattle.std.specs.Str.Iter.{LacksByte}
use Rattle.std.specs.Int.{IsInRange}
use Rattle.std.specs.Str.{bytes_eq}
use Rattle.notation.proofs.Digits.{own}
use Rattle.notation.proofs.Rejoining.{lacks_nil, cuts_one_way}
use Rattle.notation.specs.Cut.{pieces}
use Rattle.notation.specs.Laws.{NumbersReadBack, SpansReadBack, Small, SmallPart}
use Rattle.notation.specs.Spans.{span}
use Rattle.notation.specs.Texts.{span_text}
use Rattle.notation.specs.declared.spans.Span.{Span}

-- a number is read as itself
pub number_again : NumbersReadBack
number_again n small =
    let wide : n < 2 ^ 64 = omega arith in
    let short = length-decimal-le 10 n (omega arith) (omega arith) wide in
    rw (le-leb 1 (length (decimal n)) (decimal_nonempty n wide), le-leb (length (decimal n)) 10 short)
    (rw (digits_decimal own n wide, digits_value-decimal own n wide, lt-ltb n (2 ^ 32) small))

-- a number in decimal lacks what is no digit
pub lacks_decimal : (mark n : ℕ) → (IsInRange 48 57 mark → ⊥) → Small n → LacksByte mark (decimal n)
lacks_decimal mark n other small k lt e =
    let wide : n < 2 ^ 64 = omega arith in
    not_in_digits own (decimal n) mark (digits_decimal own n wide) other k lt e

-- a number in decimal lacks the dot
dotless : (n : ℕ) → Small n → LacksByte 46 (decimal n)
dotless n small = lacks_decimal 46 n (λ digit. omega arith) small

-- the dots divide the text of a span into its ends and nothing
span-pieces : (s : Span) → SmallPart (Some s) → pieces 46 (span_text s) ≡ decimal s.from ∷ [] ∷ decimal s.to ∷ []
span-pieces s small =
    cuts_one_way 46 (decimal s.from) ([] ∷ decimal s.to ∷ [])
    (dotless s.from small.0, (lacks_nil 46, (dotless s.to small.1, tt)))

-- a span is read as itself
pub span_again : (s : Span) → SmallPart (Some s) → span (span_text s) ≡ Some s
span_again s small = rw (span-pieces s small, number_again s.from small.0, number_again s.to small.1)

-- texts that differ are not the same bytes
apart : (xs ys : List ℕ) → (xs ≡ ys → ⊥) → bytes_eq xs ys ≡ false
apart xs ys differ = ⊎_elim (λ e. absurd (differ ((bytes_eq-Decides xs ys).0 e))) (λ e. e) (cases_Bool (bytes_eq xs ys))

-- no span is written as `-`
no_dash : (s : Span) → span_text s ≡ codes "-" → ⊥
no_dash s e = omega (arith, ap length e, length-append (decimal s.from) (46 ∷ 46 ∷ decimal s.to))

-- a span or none is read as itself
pub part_again : SpansReadBack
part_again None small = refl
part_again (Some s) small = rw (apart (span_text s) (codes "-") (no_dash s), span_again s small)
