-- Rows of the tables where a bank is handed up to its parent. Assumes nothing.
use Rattle.std.proofs.Common.{◌≡◌, ℕ, Bool, true, false, cond, not, ◌&&◌, eqb, List, [], ◌∷◌, map, sym, refl, ap, inl, inr}
use Rattle.std.proofs.lemmas.Bool.{cases_eq, eq-eqb, ne_eqb, true≢false}
use Rattle.tables.specs.declared.rows.Bank.{Bank}
use Rattle.tables.specs.declared.rows.Grant.{Grant}
use Rattle.kind.specs.Algebra.{Answers}
use Rattle.tables.specs.Rows.{held, handed_grant}
use Rattle.rules.specs.Record.{Outstanding, amounts, serials, passed_to, adopted}
use Rattle.rules.proofs.RowFacts.{seen}
use Rattle.rules.proofs.Sound.{row_of}

-- a row whose bank passes to p
module _ {A : Type 0} (d p : ℕ) where
  abbrev pub pass : Outstanding A → Outstanding A
  pass g = record { row = g.row; serial = g.serial; bank = passed_to d p g.bank; amount = g.amount }

  pub moved_row : (q : Answers A) (g : Outstanding A) → handed_grant q d p (row_of g) ≡ row_of (pass g)
  moved_row q g = elim (cases_eq g.bank d) [
    | inl k ↦ rw (eq-eqb d g.bank (sym k)) (rw (eq-eqb g.bank d k) refl)
    | inr k ↦ rw (ne_eqb d g.bank (λ m. k (sym m))) (rw (ne_eqb g.bank d k) refl)
  ]

  pub moved_live : (q : Answers A) (w : Grant A) → (handed_grant q d p w).live ≡ w.live
  moved_live q w = go (held (eqb d) w)
    where
      go : (t : Bool) → (cond {A = Grant A} t (record { live = w.live; bank = p; serial = w.serial; amount = w.amount }) w).live ≡ w.live
      go true = refl
      go false = refl

  pub amounts_passed : (gs : List (Outstanding A)) → amounts (map pass gs) ≡ amounts gs
  amounts_passed [] = refl
  amounts_passed (g ∷ gs) = ap {B = List A} (λ rest. g.amount ∷ rest) (amounts_passed gs)

  pub serials_passed : (gs : List (Outstanding A)) → serials (map pass gs) ≡ serials gs
  serials_passed [] = refl
  serials_passed (g ∷ gs) = ap {B = List ℕ} (λ ns. g.serial ∷ ns) (serials_passed gs)

  -- what is shown of a row that is not row d
  pub seen_moved : (row : Bank A) (l z t : Bool) → row.live ≡ l → eqb row.parent d ≡ t → (z ≡ true → t ≡ false) →
      seen (cond (row.live && (not z && eqb row.parent d)) (record { live = row.live; parent = p; limit = row.limit; used = row.used }) row) ≡ adopted d p (seen row)
  seen_moved row true true true h k c = absurd (true≢false (c refl))
  seen_moved row true true false h k c = rw h (rw k refl)
  seen_moved row true false true h k c = rw h (rw k refl)
  seen_moved row true false false h k c = rw h (rw k refl)
  seen_moved row false z t h k c = rw h refl

  pub used_moved : (row : Bank A) (t : Bool) → (cond {A = Bank A} t (record { live = row.live; parent = p; limit = row.limit; used = row.used }) row).used ≡ row.used
  used_moved row true = refl
  used_moved row false = refl
