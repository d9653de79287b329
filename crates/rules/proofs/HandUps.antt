-- Hand up. Assumes nothing.
use Rattle.std.proofs.Common.{◌≡◌, ℕ, ◌≤◌, Bool, true, false, cond, not, ◌&&◌, eqb, List, map, length, Some, None, Ok, Option, sym, refl, ap, ◌∙◌, subst, subst₂, inl, inr, arith}
use lib.ListN.{length-map, get_or-map}
use Rattle.std.proofs.lemmas.Bool.{cases_eq, cases_lt, eqb-false, eqb-true, eq-eqb, ne_eqb}
use Rattle.std.proofs.lemmas.List.{get_or_past}
use Rattle.kind.specs.Algebra.{Answers, Part}
use Rattle.tables.specs.declared.rows.Bank.{Bank}
use Rattle.tables.specs.Tables.{State, among, free_bank, free_grant}
use Rattle.tables.specs.Rows.{each_at, handed_bank, handed_grant}
use Rattle.rules.specs.Rules.{hand_up}
use Rattle.rules.specs.Record.{Opened, Outstanding, Shown, within, held_in, amounts, passed_to, parent_of, adopted}
use Rattle.rules.proofs.Views.{bank-row, grant_row, serial_of, used_of, live_of}
use Rattle.rules.proofs.Kept.{In, kept_agree, kept_map, in_map, map_in}
use Rattle.rules.proofs.Serials.{climb_map}
use Rattle.rules.proofs.Roads.{Open, road_here, road_open}
use Rattle.rules.proofs.RowFacts.{seen, length-each_at, getD_each_at, row_within}
use Rattle.rules.proofs.HandUpWays.{length-kept, pass_stay, without, among-without, passed, parent-apart, road_passed, open_passed}
use Rattle.rules.proofs.HandUpRows.{pass, moved_row, moved_live, amounts_passed, serials_passed, seen_moved, used_moved}
use Rattle.rules.proofs.Within.{Way, line_way}
use Rattle.rules.proofs.Sound.{Sound, row_of, open_seen}
use Rattle.rules.proofs.RefusalFacts.{none_some, ok_err}
use Rattle.rules.proofs.Steps.{Step, quiet_step}

module _ {A : Type 0} {makes : A → A → A → Type 0} {q : Answers A} {e : A} {v : Shown A} {s : State A} (sound : Sound makes q e v s) (d : ℕ) where
  abbrev used : ℕ → A
  used b = (bank-row q s b).used

  abbrev shown-at : ℕ → Shown A
  shown-at p = record { bank = passed v.bank d p; out = map (pass d p) v.out }

  abbrev state-at : ℕ → State A
  state-at p = record { last = s.last; banks = each_at (handed_bank q d p) 0 s.banks; grants = map (handed_grant q d p) s.grants }

  module _ (o : Opened A) (d-open : v.bank d ≡ Some o) (not_root : d ≡ 0 → ⊥) where
    abbrev p : ℕ
    p = o.parent

    abbrev v' : Shown A
    v' = shown-at p

    abbrev s' : State A
    s' = state-at p

    apart : p ≡ d → ⊥
    apart = let w = sound.ways d (o, d-open) in parent-apart v.bank d o d-open not_root w.0 w.1

    abbrev new_way : (b : ℕ) → Open v.bank b → Way v' (passed_to d p b)
    new_way b ob =
        let w = sound.ways b ob in
        let l : length w.0 ≤ 16 = w.2 in
        let m = length-kept (λ x. not (eqb x d)) w.0 in
        (without d w.0, road_passed v.bank d o d-open not_root apart b w.0 w.1, omega arith)

    still_open : (b : ℕ) → Open v.bank b → Open v'.bank (passed_to d p b)
    still_open b ob =
        let w = new_way b ob in
        road_open v'.bank (passed_to d p b) w.0 (passed_to d p b) w.1 (road_here v'.bank (passed_to d p b) w.0 w.1)

    was_open : (b : ℕ) (o' : Opened A) → v'.bank b ≡ Some o' → (b ≡ d → ⊥) × ((x : Opened A) × ((v.bank b ≡ Some x) × (x.limit ≡ o'.limit)))
    was_open b o' h = go (eqb b d) refl h
      where
        before : (x : Option (Opened A)) → v.bank b ≡ x → adopted d p x ≡ Some o' → (x : Opened A) × ((v.bank b ≡ Some x) × (x.limit ≡ o'.limit))
        before None k m = none_some o' (sym m)
        before (Some x) k m =
            let is : ◌≡◌ {A = Opened A} (record { parent = passed_to d p x.parent; limit = x.limit }) o' = cc in
            (x, (k, ap (λ (t : Opened A). t.limit) is))

        go : (t : Bool) → eqb b d ≡ t → cond t None (adopted d p (v.bank b)) ≡ Some o' → (b ≡ d → ⊥) × ((x : Opened A) × ((v.bank b ≡ Some x) × (x.limit ≡ o'.limit)))
        go true k m = none_some o' (sym m)
        go false k m = (eqb-false b d k, before (v.bank b) refl m)

    same_within : (b c : ℕ) → (b ≡ d → ⊥) → Open v.bank c → within v' b (passed_to d p c) ≡ within v b c
    same_within b c k oc =
        let w = sound.ways c oc in
        ap (among b) (line_way v' (passed_to d p c) (new_way c oc)) ∙ among-without d b w.0 k ∙ ap (among b) (sym (line_way v c w))

    same_held : (b : ℕ) → (b ≡ d → ⊥) → amounts (held_in v' b) ≡ amounts (held_in v b)
    same_held b k =
        ap amounts (kept_map (pass d p) (λ (g : Outstanding A). within v' b g.bank) v.out
        ∙ ap (map (pass d p)) (kept_agree (λ g. within v' b (passed_to d p g.bank)) (λ g. within v b g.bank) v.out (λ g i. same_within b g.bank k (sound.housed g i))))
        ∙ amounts_passed d p (held_in v b)

    used_is : (b : ℕ) → (b ≡ d → ⊥) → Open v.bank b → (bank-row q s' b).used ≡ used b
    used_is b k ob =
        let row = bank-row q s b in
        ap used_of (getD_each_at (handed_bank q d p) s.banks b (free_bank q.empty) (row_within q.empty s.banks b (open_seen sound b ob.0 ob.1).live))
        ∙ rw (ne_eqb b d k) (used_moved d p row (row.live && (not (eqb b 0) && eqb row.parent d)))

    same_rows : (b : ℕ) → v'.bank b ≡ seen (bank-row q s' b)
    same_rows b = elim (cases_lt b (length s.banks)) [
      | inl l ↦ within_table ∙ ap seen (sym (getD_each_at (handed_bank q d p) s.banks b (free_bank q.empty) l))
      | inr l ↦ past (sound.same b ∙ ap seen (get_or_past s.banks b (free_bank q.empty) l))
          ∙ ap seen (sym (get_or_past s'.banks b (free_bank q.empty) (rw (length-each_at (handed_bank q d p) 0 s.banks) l)))
    ]
      where
        row : Bank A
        row = bank-row q s b

        past : v.bank b ≡ None → v'.bank b ≡ None
        past h = rw h (elim (eqb b d) as (λ t. cond {A = Option (Opened A)} t None None ≡ None) [ true ↦ refl | false ↦ refl ])

        root_parent : eqb b 0 ≡ true → eqb row.parent d ≡ false
        root_parent t = ne_eqb row.parent d (λ m. not_root (sym m ∙ ap (λ n. (bank-row q s n).parent) (eqb-true b 0 t) ∙ (open_seen sound 0 (record { parent = 0; limit = e }) sound.root).parent))

        within_table : v'.bank b ≡ seen (handed_bank q d p b row)
        within_table = elim (cases_eq b d) [
          | inl k ↦ rw (eq-eqb b d k) refl
          | inr k ↦ rw (ne_eqb b d k) (ap (adopted d p) (sound.same b) ∙ sym (seen_moved d p row row.live (eqb b 0) (eqb row.parent d) refl refl root_parent))
        ]

    handed : Sound makes q e v' s'
    handed = record {
      banks_low = simp length-each_at sound.banks_low;
      banks_high = simp length-each_at sound.banks_high;
      grants_low = simp length-map sound.grants_low;
      grants_high = simp length-map sound.grants_high;
      same = same_rows;
      root = open_passed v.bank d o d-open not_root 0 (record { parent = 0; limit = e }) (λ k. not_root (sym k)) sound.root
          ∙ ap (λ n. Some (record { parent = n; limit = e })) (pass_stay d p 0 (λ k. not_root (sym k)));
      ways = λ b ob. (let k = was_open b ob.0 ob.1 in
          subst (λ n. Way v' n) (pass_stay d p b k.0) (new_way b (k.1.0, k.1.1.0)));
      granted = λ g i. (let k = in_map (pass d p) v.out g i in
          subst (λ (h : Outstanding A). grant_row q s' h.row ≡ row_of h) (sym k.1.1)
          (get_or-map (handed_grant q d p) s.grants k.0.row (free_grant q.empty) ∙ ap (handed_grant q d p) (sound.granted k.0 k.1.0) ∙ moved_row d p q k.0));
      housed = λ g i. (let k = in_map (pass d p) v.out g i in
          subst (λ (h : Outstanding A). Open v'.bank h.bank) (sym k.1.1) (still_open k.0.bank (sound.housed k.0 k.1.0)));
      listed = λ n live. (let w = grant_row q s n in
          let old = sound.listed n (sym (moved_live d p q w) ∙ ap live_of (sym (get_or-map (handed_grant q d p) s.grants n (free_grant q.empty))) ∙ live) in
          (pass d p old.0, map_in (pass d p) v.out old.0 old.1, old.2));
      climbs = climb_map serial_of (pass d p) (λ g. refl) v.out sound.climbs;
      issued = λ g i. (let k = in_map (pass d p) v.out g i in
          subst (λ (h : Outstanding A). h.serial ≤ s.last) (sym k.1.1) (sound.issued k.0 k.1.0));
      uses = λ b ob. (let k = was_open b ob.0 ob.1 in
          rw (same_held b k.0) (rw (used_is b k.0 (k.1.0, k.1.1.0)) (sound.uses b (k.1.0, k.1.1.0))));
      limits = λ b o' h. (let k = was_open b o' h in
          rw (used_is b k.0 (k.1.0, k.1.1.0)) (subst (λ x. Part makes (used b) x) k.1.1.1 (sound.limits b k.1.0 k.1.1.0)));
    }

    pub handed_step : (n : ℕ) → Step makes q e v s (hand_up d) (record { answer = Ok n; placed = None; after = state-at (bank-row q s d).parent })
    handed_step n = quiet_step sound (hand_up d) (record { answer = Ok n; placed = None; after = state-at (bank-row q s d).parent }) refl refl (omega arith)
        (subst₂ (λ m m'. Sound makes q e (shown-at m) (state-at m')) (sym (ap parent_of d-open)) (sym (open_seen sound d o d-open).parent) handed)
        tt
        (λ m k. ok_err k)
        (λ m i. subst (λ (ns : List ℕ). In m ns) (serials_passed d (parent_of (v.bank d)) v.out) i)
