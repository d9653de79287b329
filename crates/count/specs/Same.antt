-- Counts of one number are one count, and what `within_top` leaves of a number.
use Rattle.std.specs.Prelude.{◌≡◌, ℕ, ◌<◌, ◌≤◌}
use mathlib.Core.HLevel.{is_prop→PathP}
use Rattle.std.proofs.Math.Bridge.{le_prop}
use Rattle.std.proofs.lemmas.Bool.{le-leb, lt-leb, cond-true, cond-false}
use Rattle.count.specs.Counts.{within_top}
use Rattle.count.specs.Top.{top}
use Rattle.count.specs.declared.count.Count.{Count}

pub same : (x y : Count) → x.value ≡ y.value → x ≡ y
same x y e = λ i. record { value = e i; capped = is_prop→PathP (λ j. e j ≤ top) (λ j. le_prop) x.capped y.capped i }

pub within_top_in : (n : ℕ) → n ≤ top → within_top n ≡ n
within_top_in n h = cond-true _ n 0 (le-leb n top h)

pub within_top-out : (n : ℕ) → top < n → within_top n ≡ 0
within_top-out n h = cond-false _ n 0 (lt-leb n top h)
