-- Refusals: which is due, and which say that the ledger is out of order. Assumes nothing.
use Rattle.std.proofs.Common.{◌≡◌, ℕ, suc, ◌+◌, ◌<◌, Bool, true, false, cond, ◌&&◌, List, [], ◌∷◌, length, get_or, Some, None, Ok, Err, Option, Result, sym, refl, ap, ◌∙◌, subst, inl, inr, zero-add, arith}
use Rattle.std.proofs.lemmas.Bool.{le-leb, and_left, and_right, true≢false}
use Rattle.tables.specs.declared.refusal.Refusal.{Refusal}
use Rattle.tables.specs.declared.refusal.Refusal.TheVariants.{TableLength, NoSuchBank, NoSuchGrant, EmptyAmount, BankFree, RowLive, ChainFull, OverLimit, NotThisGrant, RootBank, SerialsSpent, OutOfOrder}
use Rattle.kind.specs.Algebra.{Answers}
use Rattle.tables.specs.declared.rows.Grant.{Grant}
use Rattle.tables.specs.Tables.{State, free_bank, free_grant}
use Rattle.tables.specs.Rows.{nearest, lowest, bank_lost, grant_lost, lost_bank, lost_grant}
use Rattle.rules.specs.Rules.{first, refuse_if, refuse_at, misfit}
use Rattle.rules.specs.Record.{Shown}
use Rattle.rules.proofs.Views.{bank-row, grant_row, lost_in}
use Rattle.rules.proofs.Kept.{In}
use Rattle.rules.proofs.Sound.{Sound, live_open, not-lost}

abbrev pub disorder : Refusal → Bool
disorder (TableLength t) = false
disorder (NoSuchBank n) = false
disorder (NoSuchGrant n) = false
disorder (EmptyAmount n) = false
disorder (BankFree n) = false
disorder (RowLive n) = false
disorder (ChainFull n) = false
disorder (OverLimit n) = false
disorder (NotThisGrant n) = false
disorder RootBank = false
disorder SerialsSpent = false
disorder (OutOfOrder n) = true

-- no refusal is due, or one that does not say so
abbrev pub Orders : Option Refusal → Type 0
Orders None = Unit {0}
Orders (Some r) = disorder r ≡ false

pub none_some : {X : Type 0} {T : Type 0} (x : X) → Some x ≡ None → T
none_some x h = let z : ◌≡◌ {A = ℕ} 0 1 = cc in absurd (omega arith)

pub ok_err : {T : Type 0} {n : ℕ} {r : Refusal} → ◌≡◌ {A = Result ℕ Refusal} (Ok n) (Err r) → T
ok_err {n = n} {r = r} h = let z : ◌≡◌ {A = ℕ} 0 1 = cc in absurd (omega arith)

pub clear : (x : Option Refusal) (rs : List (Option Refusal)) → first (x ∷ rs) ≡ None → (x ≡ None) × (first rs ≡ None)
clear None rs h = (refl, h)
clear (Some r) rs h = none_some r h

pub clear_if : (t : Bool) (r : Refusal) (rs : List (Option Refusal)) → first (refuse_if t r ∷ rs) ≡ None → (t ≡ false) × (first rs ≡ None)
clear_if true r rs h = none_some r h
clear_if false r rs h = (refl, h)

pub clear_at : (x : Option ℕ) (f : ℕ → Refusal) (rs : List (Option Refusal)) → first (refuse_at x f ∷ rs) ≡ None → (x ≡ None) × (first rs ≡ None)
clear_at None f rs h = (refl, h)
clear_at (Some n) f rs h = none_some (f n) h

pub order_none : (x : Option Refusal) (rs : List (Option Refusal)) → x ≡ None → Orders (first rs) → Orders (first (x ∷ rs))
order_none None rs e h = h
order_none (Some r) rs e h = none_some r e

pub order_then : (x : Option Refusal) (rs : List (Option Refusal)) → Orders x → (x ≡ None → Orders (first rs)) → Orders (first (x ∷ rs))
order_then None rs d h = h refl
order_then (Some r) rs d h = d

pub order_if : (t : Bool) (r : Refusal) (rs : List (Option Refusal)) → disorder r ≡ false → (t ≡ false → Orders (first rs)) → Orders (first (refuse_if t r ∷ rs))
order_if true r rs d h = d
order_if false r rs d h = h refl

pub order_not : (t : Bool) (r : Refusal) (rs : List (Option Refusal)) → t ≡ false → Orders (first rs) → Orders (first (refuse_if t r ∷ rs))
order_not true r rs e h = absurd (true≢false e)
order_not false r rs e h = h

pub order_at : (x : Option ℕ) (f : ℕ → Refusal) (rs : List (Option Refusal)) → ((n : ℕ) → disorder (f n) ≡ false) → Orders (first rs) → Orders (first (refuse_at x f ∷ rs))
order_at None f rs d h = h
order_at (Some n) f rs d h = d n

pub order_nowhere : (x : Option ℕ) (f : ℕ → Refusal) (rs : List (Option Refusal)) → x ≡ None → Orders (first rs) → Orders (first (refuse_at x f ∷ rs))
order_nowhere None f rs e h = h
order_nowhere (Some n) f rs e h = none_some n e

pub nearest_none : (f : ℕ → Bool) (xs : List ℕ) → nearest f xs ≡ None → (x : ℕ) → In x xs → f x ≡ false
nearest_none f [] h x i = absurd i
nearest_none f (y ∷ ys) h x i =
    (elim (f y) as (λ b. f y ≡ b → cond b (Some y) (nearest f ys) ≡ None → f x ≡ false) [
      | true ↦ λ e k. none_some y k
      | false ↦ λ e k. elim i [ inl j ↦ ap f j ∙ e | inr j ↦ nearest_none f ys k x j ]
    ]) refl h

pub none_nearest : (f : ℕ → Bool) (xs : List ℕ) → ((x : ℕ) → In x xs → f x ≡ false) → nearest f xs ≡ None
none_nearest f [] h = refl
none_nearest f (y ∷ ys) h = rw (h y (inl refl)) (none_nearest f ys (λ x i. h x (inr i)))

lowest_from : {X : Type 0} (f : ℕ → X → Bool) (i : ℕ) (xs : List X) (d : X) → ((k : ℕ) → k < length xs → f (k + i) (get_or xs k d) ≡ false) → lowest f i xs ≡ None
lowest_from f i [] d h = refl
lowest_from f i (x ∷ xs) d h =
    rw (subst (λ n. f n x ≡ false) (zero-add i) (h 0 (omega arith))) (lowest_from f (suc i) xs d (λ k l. subst (λ n. f n (get_or xs k d) ≡ false) (omega arith) (h (suc k) (omega arith))))

pub lowest_none : {X : Type 0} (f : ℕ → X → Bool) (xs : List X) (d : X) → ((k : ℕ) → f k (get_or xs k d) ≡ false) → lowest f 0 xs ≡ None
lowest_none f xs d h = lowest_from f 0 xs d (λ k l. subst (λ n. f n (get_or xs k d) ≡ false) (omega arith) (h k))

pub misfit_none : {A : Type 0} {makes : A → A → A → Type 0} {q : Answers A} {e : A} {v : Shown A} {s : State A} → Sound makes q e v s → misfit q s ≡ None
misfit_none {s = s} sound =
    rw (le-leb 1 (length s.banks) sound.banks_low) (rw (le-leb (length s.banks) 64 sound.banks_high) (
    rw (le-leb 1 (length s.grants) sound.grants_low) (rw (le-leb (length s.grants) 1024 sound.grants_high) refl)))

-- no live bank and no live grant has lost its chain
module _ {A : Type 0} {makes : A → A → A → Type 0} {q : Answers A} {e : A} {v : Shown A} {s : State A} (sound : Sound makes q e v s) where
  pub no_lost_bank : lost_bank q s.banks ≡ None
  no_lost_bank = lowest_none (bank_lost q s.banks) s.banks (free_bank q.empty) (λ b. go b (bank-row q s b).live refl)
    where
      go : (b : ℕ) (t : Bool) → (bank-row q s b).live ≡ t → ((bank-row q s b).live && lost_in q s b) ≡ false
      go b true h = and_right (bank-row q s b).live (lost_in q s b) (not-lost sound b (live_open sound b h))
      go b false h = and_left (bank-row q s b).live (lost_in q s b) h

  pub no_lost_grant : lost_grant q s.banks s.grants ≡ None
  no_lost_grant = lowest_none (grant_lost q s.banks) s.grants (free_grant q.empty) (λ r. go r (grant_row q s r).live refl)
    where
      go : (r : ℕ) (t : Bool) → (grant_row q s r).live ≡ t → ((grant_row q s r).live && lost_in q s (grant_row q s r).bank) ≡ false
      go r true h =
          let g = sound.listed r h in
          let is = ap (grant_row q s) (sym g.2) ∙ sound.granted g.0 g.1 in
          and_right (grant_row q s r).live (lost_in q s (grant_row q s r).bank)
          (subst (λ (w : Grant A). lost_in q s w.bank ≡ false) (sym is) (not-lost sound g.0.bank (sound.housed g.0 g.1)))
      go r false h = and_left (grant_row q s r).live (lost_in q s (grant_row q s r).bank) h
