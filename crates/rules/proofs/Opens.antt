-- Open. Assumes nothing.
use Rattle.std.proofs.Common.{◌≡◌, ℕ, ◌<◌, true, false, ◌⊎◌, List, [], ◌∷◌, length, set, Some, None, Ok, sym, refl, ap, ◌∙◌, subst, inl, inr, arith, length-set}
use Rattle.std.proofs.lemmas.Bool.{cases_eq, eq-eqb, ne_eqb}
use Rattle.std.proofs.lemmas.List.{get_or-set_same, get_or-set_other}
use Rattle.kind.specs.Algebra.{Answers, Part}
use Rattle.tables.specs.declared.rows.Bank.{Bank}
use Rattle.tables.specs.Tables.{State, among, free_bank}
use Rattle.rules.specs.Rules.{open_bank, live_bank}
use Rattle.rules.specs.Record.{Shown, accepted, line, within, held_in, amounts}
use Rattle.rules.specs.Law.{Joins}
use Rattle.rules.proofs.Views.{bank-row, chain_of_lem, used_of}
use Rattle.rules.proofs.Laws.{Laws}
use Rattle.rules.proofs.Kept.{kept_agree, kept_none}
use Rattle.rules.proofs.Serials.{not-among}
use Rattle.rules.proofs.Roads.{Open, road_open, road_stays, road_cons}
use Rattle.rules.proofs.RowFacts.{seen, seen_free}
use Rattle.rules.proofs.Within.{Way, line_way}
use Rattle.rules.proofs.Sound.{Sound, root_open, chain-line}
use Rattle.rules.proofs.RefusalFacts.{none_some, ok_err}
use Rattle.rules.proofs.Steps.{Step, quiet_step}

module _ {A : Type 0} {makes : A → A → A → Type 0} {q : Answers A} (laws : Laws makes q) {e : A} {v : Shown A} {s : State A} (sound : Sound makes q e v s) (p c : ℕ) (limit : A) where
  abbrev row : Bank A
  row = record { live = true; parent = p; limit = limit; used = q.empty }

  abbrev v' : Shown A
  v' = accepted (open_bank p c limit) 0 v

  abbrev s' : State A
  s' = record { last = s.last; banks = set s.banks c row; grants = s.grants }

  module _ (room : c < length s.banks) (p-open : Open v.bank p) (short : length (chain_of_lem q s p) < 16) (free : live_bank q s c ≡ false) where
    shut : (b : ℕ) → Open v.bank b → b ≡ c → ⊥
    shut b o h = none_some o.0 (sym o.1 ∙ ap v.bank h ∙ sound.same c ∙ seen_free (bank-row q s c) free)

    other : (b : ℕ) → (b ≡ c → ⊥) → v'.bank b ≡ v.bank b
    other b h = rw (ne_eqb b c h)

    here : v'.bank c ≡ Some (record { parent = p; limit = limit })
    here = rw (eq-eqb c c refl)

    still_open : (b : ℕ) → Open v.bank b → Open v'.bank b
    still_open b o = (o.0, other b (shut b o) ∙ o.1)

    abbrev old_way : (b : ℕ) → Open v.bank b → Way v' b
    old_way b o =
        let w = sound.ways b o in
        (w.0, road_stays v.bank v'.bank b w.0 w.1 (λ d i. other d (shut d (road_open v.bank b w.0 d w.1 i))), w.2)

    new_way : Way v' c
    new_way =
        let w = old_way p p-open in
        let k : length w.0 < 16 = subst (λ (ns : List ℕ). length ns < 16) (chain-line sound p ∙ line_way v p (sound.ways p p-open)) short in
        (c ∷ w.0, road_cons v'.bank c (record { parent = p; limit = limit }) w.0 here (λ h. shut 0 (root_open sound) (sym h)) w.1, omega arith)

    either : (b : ℕ) → Open v'.bank b → (b ≡ c) ⊎ ((b ≡ c → ⊥) × Open v.bank b)
    either b o = elim (cases_eq b c) [ inl h ↦ inl h | inr h ↦ inr (h, (o.0, sym (other b h) ∙ o.1)) ]

    same_line : (b : ℕ) → Open v.bank b → line v' b ≡ line v b
    same_line b o = line_way v' b (old_way b o) ∙ sym (line_way v b (sound.ways b o))

    same_held : (b : ℕ) → held_in v' b ≡ held_in v b
    same_held b = kept_agree (λ g. within v' b g.bank) (λ g. within v b g.bank) v.out (λ g i. ap (among b) (same_line g.bank (sound.housed g i)))

    none_held : held_in v' c ≡ []
    none_held = kept_none (λ g. within v' c g.bank) v.out (λ g i.
        let o = sound.housed g i in
        let w = old_way g.bank o in
        subst (λ (ns : List ℕ). among c ns ≡ false) (sym (line_way v' g.bank w)) (not-among c w.0 (λ k. shut c (road_open v.bank g.bank w.0 c (sound.ways g.bank o).1 k) refl)))

    row_here : bank-row q s' c ≡ row
    row_here = get_or-set_same s.banks c row (free_bank q.empty) room

    row_other : (b : ℕ) → (b ≡ c → ⊥) → bank-row q s' b ≡ bank-row q s b
    row_other b h = get_or-set_other s.banks c b row (free_bank q.empty) h

    opened : Sound makes q e v' s'
    opened = record {
      banks_low = simp length-set sound.banks_low;
      banks_high = simp length-set sound.banks_high;
      grants_low = sound.grants_low;
      grants_high = sound.grants_high;
      same = λ b. elim (cases_eq b c) [
        | inl h ↦ subst (λ n. v'.bank n ≡ seen (bank-row q s' n)) (sym h) (here ∙ sym (ap seen row_here))
        | inr h ↦ other b h ∙ sound.same b ∙ sym (ap seen (row_other b h))
      ];
      root = other 0 (shut 0 (root_open sound)) ∙ sound.root;
      ways = λ b o. elim (either b o) [ inl h ↦ subst (λ n. Way v' n) (sym h) new_way | inr h ↦ old_way b h.1 ];
      granted = sound.granted;
      housed = λ g i. still_open g.bank (sound.housed g i);
      listed = sound.listed;
      climbs = sound.climbs;
      issued = sound.issued;
      uses = λ b o. elim (either b o) [
        | inl h ↦ subst (λ n. Joins makes q (amounts (held_in v' n)) (bank-row q s' n).used) (sym h)
            (rw none_held (sym (ap used_of row_here)))
        | inr h ↦ rw (same_held b) (rw (row_other b h.0) (sound.uses b h.1))
      ];
      limits = λ b o h. elim (cases_eq b c) [
        | inl k ↦ subst (λ u. Part makes u o.limit) (sym (ap (λ n. (bank-row q s' n).used) k ∙ ap used_of row_here)) (o.limit, laws.neutral o.limit)
        | inr k ↦ subst (λ (r : Bank A). Part makes r.used o.limit) (sym (row_other b k)) (sound.limits b o (sym (other b k) ∙ h))
      ];
    }

    pub opened_step : Step makes q e v s (open_bank p c limit) (record { answer = Ok 0; placed = None; after = s' })
    opened_step = quiet_step sound (open_bank p c limit) (record { answer = Ok 0; placed = None; after = s' }) refl refl (omega arith) opened tt (λ n h. ok_err h) (λ n i. i)
