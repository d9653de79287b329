-- Counts: whole numbers up to `top`, which add up. Assumes nothing.
use Rattle.std.specs.Prelude.{◌≡◌, ℕ, ◌+◌, ◌-◌, ◌≤◌, cond, Ok, Err, Result, ◌==◌, nat_le}
use Rattle.std.proofs.Common.{arith}
use Rattle.std.proofs.lemmas.Bool.{cond_both, leb-true}
use Rattle.kind.specs.Algebra.{Answers}
use Rattle.kind.specs.declared.refusal.AmountRefusal.{AmountRefusal}
use Rattle.kind.specs.declared.refusal.AmountRefusal.TheVariants.{CountTooLarge}
use Rattle.count.specs.Top.{top}
use Rattle.count.specs.declared.count.Count.{Count}

-- n, or 0 if n is too large
abbrev pub within_top : ℕ → ℕ
within_top n = cond (nat_le n top) n 0

pub within_top_le : (n : ℕ) → within_top n ≤ top
within_top_le n = cond_both (nat_le n top) n 0 (λ v. v ≤ top) (leb-true n top) (λ e. omega arith)

-- the count of n, or of 0 if n is too large
abbrev pub count_of : ℕ → Count
count_of n = record { value = within_top n; capped = within_top_le n }

-- the count of n, refused if n is too large
abbrev pub make_count : ℕ → Result Count AmountRefusal
make_count n = cond (nat_le n top) (Ok (count_of n)) (Err CountTooLarge)

-- x and y make z if z is their sum
abbrev pub Sums : Count → Count → Count → Type 0
Sums x y z = x.value + y.value ≡ z.value

abbrev pub count_answers : Answers Count
count_answers = record {
  empty = count_of 0;
  is_empty = λ x. (x.value == 0);
  fits = λ x y. nat_le (x.value + y.value) top;
  join = λ x y. count_of (x.value + y.value);
  holds = λ z x. nat_le x.value z.value;
  remainder = λ z x. count_of (z.value - x.value);
}
