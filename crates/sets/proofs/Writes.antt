-- Ends written into places.
use Rattle.std.proofs.Common.{◌≡◌, ℕ, ◌/◌, ◌%◌, ◌<◌, ◌≤◌, ◌⊎◌, List, length, set, replicate, ap, ◌∙◌, inl, inr, ⊎_elim, arith}
use Rattle.std.proofs.lemmas.List.{get_or_past, get_or-replicate, length-replicate, get_or-set_same, get_or-set_other}
use Rattle.std.proofs.lemmas.Bool.{cond-true, cond-false, cases_lt, cases_eq, eq-eqb, ne_eqb}
use Rattle.sets.specs.Ends.{place, end_in_place}
use Rattle.sets.specs.Runs.{blank}
use Rattle.sets.specs.declared.run.Run.{Run}

pub in_place-is : (rs : List Run) (i : ℕ)
    → ((i % 2 ≡ 0) × (end_in_place rs i ≡ (place rs (i / 2)).from)) ⊎ ((i % 2 ≡ 1) × (end_in_place rs i ≡ (place rs (i / 2)).to))
unfolding end_in_place
in_place-is rs i =
    let r = place rs (i / 2) in
    ⊎_elim
    (λ (v : i % 2 ≡ 0). inl (v, cond-true _ r.from r.to (eq-eqb (i % 2) 0 v)))
    (λ (v : i % 2 ≡ 0 → ⊥). inr (omega (arith, v), cond-false _ r.from r.to (ne_eqb (i % 2) 0 v)))
    (cases_eq (i % 2) 0)

-- a place written so that one end of it is new
module _ (rs : List Run) (q : ℕ) (r : Run) (at : ℕ) (lt : q / 2 < length rs)
    (new : ((q % 2 ≡ 0) × (r.from ≡ at) × (r.to ≡ (place rs (q / 2)).to)) ⊎ ((q % 2 ≡ 1) × (r.from ≡ (place rs (q / 2)).from) × (r.to ≡ at))) where
  put_here : end_in_place (set rs (q / 2) r) q ≡ at
  put_here =
      let s = get_or-set_same rs (q / 2) r blank lt in
      let f = ap (λ x. x.from) s in
      let t = ap (λ x. x.to) s in
      let u = in_place-is (set rs (q / 2) r) q in
      omega (arith, u, new, f, t)

  put_others : (j : ℕ) → (j ≡ q → ⊥) → end_in_place (set rs (q / 2) r) j ≡ end_in_place rs j
  put_others j ne =
      let u = in_place-is (set rs (q / 2) r) j in
      let v = in_place-is rs j in
      ⊎_elim
      (λ (e : j / 2 ≡ q / 2).
      let s = get_or-set_same rs (q / 2) r blank lt in
      let f = ap (λ p. (place (set rs (q / 2) r) p).from) e ∙ ap (λ x. x.from) s in
      let t = ap (λ p. (place (set rs (q / 2) r) p).to) e ∙ ap (λ x. x.to) s in
      let f' = ap (λ p. (place rs p).from) e in
      let t' = ap (λ p. (place rs p).to) e in
      let other : j % 2 ≡ q % 2 → ⊥ = λ h. ne (omega arith) in
      omega (arith, u, v, new, f, t, f', t', other))
      (λ (d : j / 2 ≡ q / 2 → ⊥).
      let s = get_or-set_other rs (q / 2) (j / 2) r blank d in
      let f = ap (λ x. x.from) s in
      let t = ap (λ x. x.to) s in
      omega (arith, u, v, f, t))
      (cases_eq (j / 2) (q / 2))

  pub put_end_lem : record { here : end_in_place (set rs (q / 2) r) q ≡ at; others : (j : ℕ) → (j ≡ q → ⊥) → end_in_place (set rs (q / 2) r) j ≡ end_in_place rs j }
  put_end_lem = record { here = put_here; others = put_others }

pub place-blank : (m p : ℕ) → place (replicate m blank) p ≡ blank
place-blank m p =
    ⊎_elim (λ (h : p < m). get_or-replicate m p blank blank h)
    (λ (h : m ≤ p). get_or_past (replicate m blank) p blank (omega (arith, length-replicate m blank)))
    (cases_lt p m)
