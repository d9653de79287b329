-- A ledger that was just set up. Assumes nothing.
use Rattle.std.proofs.Common.{◌≡◌, ℕ, zero, suc, ◌≤◌, true, cond, [], ◌∷◌, get_or, replicate, Some, None, Option, sym, refl, ap, ◌∙◌, subst, inl, inr, arith, length-set}
use lib.ListN.{length-replicate}
use Rattle.std.proofs.lemmas.Bool.{cases_eq, eq-eqb, ne_eqb, false≢true}
use Rattle.std.proofs.lemmas.List.{get_or-set_same, get_or-set_other}
use Rattle.kind.specs.Algebra.{Answers}
use Rattle.tables.specs.declared.rows.Bank.{Bank}
use Rattle.tables.specs.Tables.{State, free_bank, free_grant}
use Rattle.rules.specs.Rules.{fresh}
use Rattle.rules.specs.Record.{Opened, begin}
use Rattle.rules.proofs.Views.{bank-row, used_of, live_of}
use Rattle.rules.proofs.Laws.{Laws}
use Rattle.rules.proofs.RowFacts.{seen}
use Rattle.rules.proofs.RefusalFacts.{none_some}
use Rattle.rules.proofs.Sound.{Sound}

all_free : {X : Type 0} (n i : ℕ) (x : X) → get_or (replicate n x) i x ≡ x
all_free zero i x = refl
all_free (suc n) zero x = refl
all_free (suc n) (suc i) x = all_free n i x

module _ {A : Type 0} {makes : A → A → A → Type 0} {q : Answers A} (laws : Laws makes q) (e : A) (banks grants : ℕ) (bl : 1 ≤ banks) (bh : banks ≤ 64) (gl : 1 ≤ grants) (gh : grants ≤ 1024) where
  abbrev s : State A
  s = fresh q e banks grants

  abbrev row : Bank A
  row = record { live = true; parent = 0; limit = e; used = q.empty }

  row_root : bank-row q s 0 ≡ row
  row_root = get_or-set_same (replicate banks (free_bank q.empty)) 0 row (free_bank q.empty) (rw (length-replicate banks (free_bank q.empty)) bl)

  row_other : (b : ℕ) → (b ≡ 0 → ⊥) → bank-row q s b ≡ free_bank q.empty
  row_other b h = get_or-set_other (replicate banks (free_bank q.empty)) 0 b row (free_bank q.empty) h ∙ all_free banks b (free_bank q.empty)

  used_none : (b : ℕ) → (bank-row q s b).used ≡ q.empty
  used_none b = elim (cases_eq b 0) [
    | inl h ↦ ap (λ n. (bank-row q s n).used) h ∙ ap used_of row_root
    | inr h ↦ ap used_of (row_other b h)
  ]

  only_root : (b : ℕ) (o : Opened A) → (begin e).bank b ≡ Some o → b ≡ 0
  only_root b o h = elim (cases_eq b 0) [
    | inl k ↦ k
    | inr k ↦ none_some o (sym (subst (λ t. cond {A = Option (Opened A)} t (Some (record { parent = 0; limit = e })) None ≡ Some o) (ne_eqb b 0 k) h))
  ]

  pub begins : Sound makes q e (begin e) s
  begins = record {
    banks_low = simp (length-set, length-replicate) bl;
    banks_high = simp (length-set, length-replicate) bh;
    grants_low = simp length-replicate gl;
    grants_high = simp length-replicate gh;
    same = λ b. elim (cases_eq b 0) [
      | inl h ↦ rw (eq-eqb b 0 h) (sym (ap (λ n. seen (bank-row q s n)) h ∙ ap seen row_root))
      | inr h ↦ rw (ne_eqb b 0 h) (sym (ap seen (row_other b h)))
    ];
    root = refl;
    ways = λ b o. (let k = only_root b o.0 o.1 in (0 ∷ [], (o.0, sym k, o.1, k), omega arith));
    granted = λ g i. absurd i;
    housed = λ g i. absurd i;
    listed = λ r h. absurd (false≢true (sym (ap live_of (all_free grants r (free_grant q.empty))) ∙ h));
    climbs = tt;
    issued = λ g i. absurd i;
    uses = λ b o. sym (used_none b);
    limits = λ b o h. rw (used_none b) (o.limit, laws.neutral o.limit);
  }
