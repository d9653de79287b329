-- What the laws of unions ask of windows, and when a set of seconds is empty.
use Rattle.std.specs.Prelude.{◌≡◌, ℕ, ◌<◌, ◌≤◌, min, true}
use Rattle.std.proofs.Common.{sym, ap, ◌∙◌, ⊎_elim, arith}
use Rattle.std.proofs.Math.Bool.{Bool-set}
use mathlib.Core.HLevel.{is_prop→PathP}
use Rattle.std.proofs.lemmas.Bool.{cases_eq}
use Rattle.sets.specs.Ends.{place, end_of}
use Rattle.sets.specs.Runs.{tidy, runs_of}
use Rattle.sets.proofs.Covering.{end_is, covered-at, covered_le, same_runs}
use Rattle.sets.proofs.Places.{Tidy, tidy_places}
use Rattle.sets.proofs.Scans.{places_cover, scan_same}
use Rattle.sets.proofs.Unions.{Sets}
use Rattle.windows.specs.Sizes.{second_count, window_places}
use Rattle.windows.specs.WindowSets.{window, windows_of, window_runs}
use Rattle.windows.specs.declared.windows.Windows.{Windows}

pub tidy_of : (x : Windows) → Tidy second_count window_places x.runs
tidy_of x = tidy_places second_count window_places x.runs x.sound

pub same_data : (x y : Windows) → x.runs ≡ y.runs → x ≡ y
same_data x y e = λ i. record { runs = e i; sound = is_prop→PathP (λ j. tidy second_count window_places (e j) ≡ true) (λ j. Bool-set _ _) x.sound y.sound i }

pub same : (x y : Windows) → ((k : ℕ) → k < second_count → window x k ≡ window y k) → x ≡ y
same x y e = same_data x y (same_runs second_count window_places x.runs y.runs (tidy_of x) (tidy_of y) e)

pub one : (x : Windows) (k : ℕ) → window x k ≤ 1
one x k = covered_le second_count window_places x.runs (tidy_of x) k

pub made : (f : ℕ → ℕ) (k : ℕ) → k < second_count → window (windows_of f) k ≡ min (f k) 1
made f k h = places_cover second_count window_places (omega arith) f k h

-- a set whose first place is blank is empty, and no other is
pub blank_none : (x : Windows) → (place x.runs 0).to ≡ 0 → x ≡ windows_of (λ _. 0)
blank_none x z =
    let rs = x.runs in
    let u = end_is second_count rs 0 in
    same x _ (λ k h.
    covered-at second_count window_places rs (tidy_of x) 0 k (omega arith) (λ q l. absurd (omega arith)) (omega arith) ∙ sym (made (λ _. 0) k h))

pub none_blank : (x : Windows) → x ≡ windows_of (λ _. 0) → (place x.runs 0).to ≡ 0
none_blank x e =
    let rs = x.runs in
    let r = place rs 0 in
    let t = (tidy_of x).1 0 in
    ⊎_elim (λ (z : r.to ≡ 0). z)
    (λ (z : r.to ≡ 0 → ⊥).
    let used : 0 < r.to = omega (arith, z) in
    let lt = t.1.1.0 used in
    let u = end_is second_count rs 0 in
    let v = end_is second_count rs 1 in
    let in-it = covered-at second_count window_places rs (tidy_of x) 1 r.from (omega arith)
    (λ q l. let first : end_of second_count rs q ≡ end_of second_count rs 0 = ap (end_of second_count rs) (omega arith) in omega arith) (omega arith) in
    let out = ap (λ w. window w r.from) e ∙ made (λ _. 0) r.from (omega arith) in
    absurd (omega arith))
    (cases_eq r.to 0)

pub window_sets : Sets second_count window windows_of
window_sets = record { one = one; same = same; made = made }

-- the runs of a set are those of the numbers that it is made of
pub runs_made : (f : ℕ → ℕ) → window_runs (windows_of f) ≡ runs_of second_count f
runs_made f = scan_same (window (windows_of f)) f second_count 0 (λ j ge lt. omega (arith, made f j (omega arith)))
