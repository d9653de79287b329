-- Reclaim. Assumes nothing.
use Rattle.std.proofs.Common.{◌≡◌, ℕ, ◌<◌, Bool, true, false, cond, not, ◌&&◌, List, map, length, Some, None, Ok, Option, sym, refl, ap, ◌∙◌, subst, inl, inr, arith}
use lib.ListN.{length-map, get_or-map}
use Rattle.std.proofs.lemmas.Bool.{not-true, not_from_true, not_from_false, both_ways, false≢true}
use Rattle.kind.specs.Algebra.{Answers, Part}
use Rattle.tables.specs.declared.rows.Bank.{Bank}
use Rattle.tables.specs.declared.rows.Grant.{Grant}
use Rattle.tables.specs.Tables.{State, among, bank_at, free_grant}
use Rattle.tables.specs.Rows.{short_of, change_uses, nearest, each_at, above, freed_bank, freed_grant}
use Rattle.rules.specs.Rules.{reclaim}
use Rattle.rules.specs.Record.{Opened, Outstanding, Shown, kept, within, held_in, amounts}
use Rattle.rules.specs.Law.{Joins}
use Rattle.rules.proofs.Views.{bank-row, grant_row, chain_of_lem, under_in, serial_of, amount_of, used_of, live_of}
use Rattle.rules.proofs.Laws.{Laws}
use Rattle.rules.proofs.Kept.{in_kept, kept_in, kept_agree}
use Rattle.rules.proofs.Serials.{in_among, from_not, climb_kept}
use Rattle.rules.proofs.Roads.{Open}
use Rattle.rules.proofs.RowFacts.{seen, length-each_at, row_within, length_changed, seen_changed, used_changed, seen_freed, row_kept}
use Rattle.rules.proofs.Removals.{Lowered, lowered, unlowered, lowered_part}
use Rattle.rules.proofs.Within.{line_way, within_self, within_open, within_trans, within_order}
use Rattle.rules.proofs.Closes.{road_above, in_above, closed, still_open, was_open, root_stays, way_stays, same_line}
use Rattle.rules.proofs.Sound.{Sound, row_of, root_open, open_seen, chain-line}
use Rattle.rules.proofs.RefusalFacts.{ok_err, none_nearest}
use Rattle.rules.proofs.Steps.{Step}
use Rattle.rules.proofs.Endings.{ending_step}

module _ {A : Type 0} {makes : A → A → A → Type 0} {q : Answers A} (laws : Laws makes q) {e : A} {v : Shown A} {s : State A} (sound : Sound makes q e v s) (d : ℕ) where
  abbrev used : ℕ → A
  used b = (bank-row q s b).used

  abbrev gone : Outstanding A → Bool
  gone g = within v d g.bank

  abbrev v' : Shown A
  v' = closed v d

  abbrev lower : List (Bank A)
  lower = change_uses q (λ u. q.remainder u (used d)) (above (chain_of_lem q s d)) s.banks

  abbrev cleared : Grant A → Grant A
  cleared = freed_grant q (under_in q s d)

  abbrev s' : State A
  s' = record {
    last = s.last;
    banks = each_at (freed_bank q (under_in q s d)) 0 lower;
    grants = map cleared s.grants;
  }

  under-within : (b : ℕ) → under_in q s d b ≡ within v d b
  under-within b = ap (among d) (chain-line sound b)

  module _ (not_root : d ≡ 0 → ⊥) (d-open : Open v.bank d) where
    -- a bank above d
    paid : (b : ℕ) → within v b d ≡ true → Lowered laws amount_of (λ g. within v b g.bank) gone v.out (used b) (used d)
    paid b k = lowered laws amount_of (λ g. within v b g.bank) gone v.out (used b) (used d)
        (sound.uses b (within_open v sound.ways d d-open b k))
        (sound.uses d d-open)
        (λ g i t. within_trans v sound.ways g.bank (sound.housed g i) d b t k)

    -- a bank neither above d nor beneath it
    unpaid : (b : ℕ) → within v d b ≡ false → within v b d ≡ false → kept (λ g. within v b g.bank) (kept (λ g. not (gone g)) v.out) ≡ held_in v b
    unpaid b h k = unlowered laws amount_of (λ g. within v b g.bank) gone v.out (λ g i t. from_not (gone g) (λ n.
        elim (within_order v sound.ways g.bank (sound.housed g i) d b n t) [
          | inl m ↦ both_ways (within v d b) h m
          | inr m ↦ both_ways (within v b d) k m
        ]))

    -- so no bank above is short of it
    pub none_short : nearest (short_of q s.banks (used d)) (above (chain_of_lem q s d)) ≡ None
    none_short = none_nearest (short_of q s.banks (used d)) (above (chain_of_lem q s d)) (λ b i.
        let k : within v b d ≡ true = subst (λ (ns : List ℕ). among b ns ≡ true) (chain-line sound d) (in_among b (chain_of_lem q s d) (in_above v.bank b (chain_of_lem q s d) i)) in
        not_from_true (q.holds (used b) (used d)) (paid b k).held)

    same_held : (b : ℕ) → held_in v' b ≡ kept (λ g. within v b g.bank) (kept (λ g. not (gone g)) v.out)
    same_held b = kept_agree (λ g. within v' b g.bank) (λ g. within v b g.bank) (kept (λ g. not (gone g)) v.out) (λ g i.
        let k = in_kept (λ x. not (gone x)) v.out g i in
        ap (among b) (same_line v d sound.ways g.bank (not-true (gone g) k.1) (sound.housed g k.0)))

    used_is : (b : ℕ) → within v d b ≡ false → Open v.bank b → (bank-row q s' b).used ≡ cond (within v b d) (q.remainder (used b) (used d)) (used b)
    used_is b h o =
        let f : A → A = (λ u. q.remainder u (used d)) in
        let on = above (chain_of_lem q s d) in
        let l : b < length s.banks = row_within q.empty s.banks b (open_seen sound b o.0 o.1).live in
        let l' : b < length lower = rw (length_changed q f on s.banks) l in
        let w = sound.ways d d-open in
        let apart : b ≡ d → ⊥ = (λ k. both_ways (within v d b) h (ap (λ x. within v d x) k ∙ within_self v sound.ways d d-open)) in
        let aboves : among b on ≡ within v b d =
        ap (λ (ns : List ℕ). among b (above ns)) (chain-line sound d ∙ line_way v d w) ∙ road_above v.bank d b w.0 w.1 apart ∙ ap (among b) (sym (line_way v d w)) in
        ap used_of (row_kept q (under_in q s d) lower b l' (under-within b ∙ h))
        ∙ used_changed q f on s.banks b l
        ∙ ap (λ t. cond t (q.remainder (used b) (used d)) (used b)) aboves

    uses_are : (b : ℕ) → within v d b ≡ false → Open v.bank b → (t : Bool) → within v b d ≡ t → Joins makes q (amounts (held_in v' b)) (cond t (q.remainder (used b) (used d)) (used b))
    uses_are b h o true k = rw (same_held b) (paid b k).joined
    uses_are b h o false k = rw (same_held b) (rw (unpaid b h k) (sound.uses b o))

    limits_are : (b : ℕ) (o : Opened A) → v.bank b ≡ Some o → (t : Bool) → within v b d ≡ t → Part makes (cond t (q.remainder (used b) (used d)) (used b)) o.limit
    limits_are b o m true k = lowered_part laws (used d) (q.remainder (used b) (used d)) (used b) o.limit (paid b k).whole (sound.limits b o m)
    limits_are b o m false k = sound.limits b o m

    -- a row that is still live was live, and does not stand under d
    live_before : (w : Grant A) → (cleared w).live ≡ true → (w.live ≡ true) × ((w.live && under_in q s d w.bank) ≡ false)
    live_before w h = go (w.live && under_in q s d w.bank) refl h
      where
        go : (t : Bool) → (w.live && under_in q s d w.bank) ≡ t → (cond {A = Grant A} t (free_grant q.empty) w).live ≡ true → (w.live ≡ true) × ((w.live && under_in q s d w.bank) ≡ false)
        go true k m = absurd (false≢true m)
        go false k m = (m, k)

    reclaimed : Sound makes q e v' s'
    reclaimed = record {
      banks_low = simp length-each_at sound.banks_low;
      banks_high = simp length-each_at sound.banks_high;
      grants_low = simp length-map sound.grants_low;
      grants_high = simp length-map sound.grants_high;
      same = λ b.
          ap (λ (x : Option (Opened A)). cond (within v d b) None x) (sound.same b ∙ sym (seen_changed q (λ u. q.remainder u (used d)) (above (chain_of_lem q s d)) s.banks b))
          ∙ ap (λ t. cond t None (seen (bank_at q.empty lower b))) (sym (under-within b))
          ∙ sym (seen_freed q (under_in q s d) lower b);
      root = still_open v d 0 (root_stays v d sound.ways (root_open sound) not_root) ∙ sound.root;
      ways = λ b o. (let k = was_open v d b o.0 o.1 in way_stays v d sound.ways b k.0 (o.0, k.1));
      granted = λ g i. (let k = in_kept (λ x. not (gone x)) v.out g i in
          get_or-map cleared s.grants g.row (free_grant q.empty)
          ∙ ap cleared (sound.granted g k.0)
          ∙ ap (λ t. cond t (free_grant q.empty) (row_of g)) (under-within g.bank ∙ not-true (gone g) k.1));
      housed = λ g i. (let k = in_kept (λ x. not (gone x)) v.out g i in
          let o = sound.housed g k.0 in
          (o.0, still_open v d g.bank (not-true (gone g) k.1) ∙ o.1));
      listed = λ n live. (let w = grant_row q s n in
          let k = live_before w (ap live_of (sym (get_or-map cleared s.grants n (free_grant q.empty))) ∙ live) in
          let old = sound.listed n k.0 in
          let is : w ≡ row_of old.0 = ap (grant_row q s) (sym old.2) ∙ sound.granted old.0 old.1 in
          let m = subst (λ (x : Grant A). (x.live && under_in q s d x.bank) ≡ false) is k.1 in
          (old.0, kept_in (λ x. not (gone x)) v.out old.0 old.1 (not_from_false (gone old.0) (sym (under-within old.0.bank) ∙ m)), old.2));
      climbs = climb_kept serial_of (λ x. not (gone x)) v.out sound.climbs;
      issued = λ g i. sound.issued g (in_kept (λ x. not (gone x)) v.out g i).0;
      uses = λ b o. (let k = was_open v d b o.0 o.1 in
          rw (used_is b k.0 (o.0, k.1)) (uses_are b k.0 (o.0, k.1) (within v b d) refl));
      limits = λ b o h. (let k = was_open v d b o h in
          rw (used_is b k.0 (o, k.1)) (limits_are b o k.1 (within v b d) refl));
    }

    pub reclaimed_step : (n : ℕ) → Step makes q e v s (reclaim d) (record { answer = Ok n; placed = Some (used d); after = s' })
    reclaimed_step n = ending_step sound gone (reclaim d) (record { answer = Ok n; placed = Some (used d); after = s' })
        refl refl refl (omega arith) reclaimed (used d, (refl, sound.uses d d-open)) (λ m k. ok_err k)
