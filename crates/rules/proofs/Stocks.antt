-- Stock. Assumes nothing.
use Rattle.std.proofs.Common.{◌≡◌, Bool, true, false, not, ◌&&◌, [], ◌∷◌, Some, None, Ok, Option, sym, refl, ap, subst, arith}
use Rattle.std.proofs.lemmas.Bool.{and_from, not_from_true}
use Rattle.kind.specs.Algebra.{Answers}
use Rattle.tables.specs.declared.refusal.Refusal.{Refusal}
use Rattle.tables.specs.declared.refusal.Refusal.TheVariants.{OutOfOrder}
use Rattle.tables.specs.declared.rows.Bank.{Bank}
use Rattle.tables.specs.Tables.{State}
use Rattle.rules.specs.Rules.{Outcome, stock, stocks, stock_refusal, first, refuse_if, misfit, unless}
use Rattle.rules.specs.Record.{Shown}
use Rattle.rules.proofs.Views.{bank-row}
use Rattle.rules.proofs.Laws.{Laws, rest_made, holds-part}
use Rattle.rules.proofs.Sound.{Sound, open_seen}
use Rattle.rules.proofs.RefusalFacts.{misfit_none, ok_err}
use Rattle.rules.proofs.Steps.{Step, quiet_step}

first_none : (x : Option Refusal) (t : Bool) (r : Refusal) → x ≡ None → t ≡ false → first (x ∷ refuse_if t r ∷ []) ≡ None
first_none x t r h k = rw h (rw k refl)

module _ {A : Type 0} {makes : A → A → A → Type 0} {q : Answers A} (laws : Laws makes q) {e : A} {v : Shown A} {s : State A} (sound : Sound makes q e v s) where
  abbrev root : Bank A
  root = bank-row q s 0

  root_limit : root.limit ≡ e
  root_limit = (open_seen sound 0 (record { parent = 0; limit = e }) sound.root).limit

  pub root_holds : q.holds root.limit root.used ≡ true
  root_holds =
      let part = sound.limits 0 (record { parent = 0; limit = e }) sound.root in
      rw root_limit (holds-part laws root.used part.0 e part.1)

  pub stock-whole : makes (q.remainder root.limit root.used) root.used e
  stock-whole =
      subst (λ x. makes (q.remainder root.limit root.used) root.used x) root_limit
      (laws.commutative root.used (q.remainder root.limit root.used) root.limit (rest_made laws root.limit root.used root_holds))

  stock_clear : stock_refusal q s ≡ None
  stock_clear =
      first_none (misfit q s) (not (root.live && q.holds root.limit root.used)) (OutOfOrder 0) (misfit_none sound)
      (not_from_true (root.live && q.holds root.limit root.used)
      (and_from root.live (q.holds root.limit root.used) (open_seen sound 0 (record { parent = 0; limit = e }) sound.root).live root_holds))

  abbrev told : Outcome A
  told = record { answer = Ok 0; placed = Some (q.remainder root.limit root.used); after = s }

  pub stock_told : stocks q s ≡ told
  stock_told = ap (λ (x : Option Refusal). unless q x s told) stock_clear

  pub stock_step : Step makes q e v s stock (stocks q s)
  stock_step = subst (λ (o : Outcome A). Step makes q e v s stock o) (sym stock_told) (quiet_step sound stock told refl refl (omega arith) sound tt (λ n h. ok_err h) (λ n i. i))
