-- From what is due of a rule's refusals to what its call came to.
use Rattle.std.proofs.Common.{◌≡◌, ℕ, Bool, true, List, map, length, set, replicate, None, Ok, Option, Result, refl, ap, ◌∙◌, subst, ap₂}
use mathlib.Core.Path.{fun_ext}
use Rattle.kind.specs.Algebra.{Answers}
use Rattle.tables.specs.declared.refusal.Refusal.{Refusal}
use Rattle.tables.specs.declared.rows.Bank.{Bank}
use Rattle.tables.specs.declared.rows.Grant.{Grant}
use Rattle.tables.specs.Tables.{State, chain, under, bank_at, free_bank, free_grant}
use Rattle.tables.specs.Rows.{change_uses, each_at, how_many, held, above, freed_bank, freed_grant}
use Rattle.rules.specs.Rules.{Outcome, unless, reclaim_refusal, reclaims, fresh}
use Rattle.ledger.specs.Passes.{Rewritten}
use Rattle.ledger.specs.Posts.{Meets, marked}

pub states : {A : Type 0} {l m : ℕ} {bs cs : List (Bank A)} {gs hs : List (Grant A)} → l ≡ m → bs ≡ cs → gs ≡ hs
    → ◌≡◌ {A = State A} (record { last = l; banks = bs; grants = gs }) (record { last = m; banks = cs; grants = hs })
states p q r = cc

module _ {A : Type 0} (q : Answers A) where
  pub accepts : (x : Option Refusal) (s t : State A) (o : Outcome A) (r : Result ℕ Refusal) → None ≡ x → Meets o r t → Meets (unless q x s o) r t
  accepts x s t o r e h = subst (λ y. Meets (unless q y s o) r t) e h

  -- a ledger is set up: what was written
  pub set_up_lem : (e : A) (s : State A) (none : A) (banks : List (Bank A)) (grants : List (Grant A)) → none ≡ q.empty
      → banks ≡ replicate (length s.banks) (free_bank q.empty) → grants ≡ replicate (length s.grants) (free_grant q.empty)
      → record { last = 0; banks = set banks 0 (record { live = true; parent = 0; limit = e; used = none }); grants = grants } ≡ fresh q e (length s.banks) (length s.grants)
  set_up_lem e s none banks grants n bs gs = states refl (ap₂ (λ (rows : List (Bank A)) (u : A). set rows 0 (record { live = true; parent = 0; limit = e; used = u })) bs n) gs

  -- a bank is reclaimed: its use, the rows above it and the marks of those under it, and what was written
  pub reclaimed : (s : State A) (d : ℕ) (used : A) (gone : List Bool) (rows : List ℕ) (n : ℕ) (banks freed : List (Bank A)) (grants : List (Grant A)) → None ≡ reclaim_refusal q s d
      → used ≡ (bank_at q.empty s.banks d).used → ((b : ℕ) → marked gone b ≡ under q.empty s.banks d b) → rows ≡ above (chain q.empty s.banks d)
      → banks ≡ change_uses q (λ u. q.remainder u used) rows s.banks → freed ≡ each_at (freed_bank q (marked gone)) 0 banks
      → Rewritten (held (marked gone)) (λ _. free_grant q.empty) s.grants grants n
      → Meets (reclaims q s d) (Ok n) (record { last = s.last; banks = freed; grants = grants })
  reclaimed s d used gone rows n banks freed grants due is marks above-it taken fs gs =
      let under-d = under q.empty s.banks d in
      let marks-are : marked gone ≡ under-d = fun_ext marks in
      let in_rows = ap (λ (rs : List ℕ). change_uses q (λ u. q.remainder u used) rs s.banks) above-it in
      let in-used = ap (λ (a : A). change_uses q (λ u. q.remainder u a) (above (chain q.empty s.banks d)) s.banks) is in
      accepts _ s _ _ _ due (record {
        answered = ap Ok (gs.counts ∙ ap (λ (f : ℕ → Bool). how_many (held f) s.grants) marks-are);
        left =
            states refl (fs ∙ ap (λ (f : ℕ → Bool). each_at (freed_bank q f) 0 banks) marks-are ∙ ap (each_at (freed_bank q under-d) 0) (taken ∙ in_rows ∙ in-used))
            (gs.rows ∙ ap (λ (f : ℕ → Bool). map (freed_grant q f) s.grants) marks-are);
      })
