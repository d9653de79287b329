-- Back. Assumes nothing.
use Rattle.std.proofs.Common.{◌≡◌, ℕ, ◌<◌, Bool, true, false, cond, not, ◌&&◌, eqb, List, [], ◌∷◌, length, set, Some, None, Ok, sym, refl, ap, ◌∙◌, subst, inl, inr, arith, length-set}
use Rattle.std.proofs.lemmas.Bool.{cases_eq, not-true, both_ways, and_parts, and_from, eqb-true, eq-eqb, or_left, or_right, not_from_true, not_from_false, false≢true}
use Rattle.std.proofs.lemmas.List.{get_or-set_same, get_or-set_other}
use Rattle.kind.specs.Algebra.{Answers, Part}
use Rattle.tables.specs.declared.rows.Grant.{Grant}
use Rattle.tables.specs.Tables.{State, among, free_grant}
use Rattle.tables.specs.Rows.{short_of, change_uses, nearest}
use Rattle.rules.specs.Rules.{Outcome, give_back}
use Rattle.rules.specs.Record.{Opened, Outstanding, Shown, accepted, kept, within, held_in, amounts, serials, named}
use Rattle.rules.specs.Law.{Joins}
use Rattle.rules.proofs.Views.{bank-row, grant_row, chain_of_lem, serial_of, amount_of, live_of}
use Rattle.rules.proofs.Laws.{Laws}
use Rattle.rules.proofs.Kept.{In, in_kept, kept_in}
use Rattle.rules.proofs.Serials.{in_among, from_not, climb_kept, climb_same, kept_sole}
use Rattle.rules.proofs.Roads.{Open}
use Rattle.rules.proofs.RowFacts.{row_within, length_changed, seen_changed, used_changed}
use Rattle.rules.proofs.Removals.{Lowered, lowered, unlowered, lowered_part}
use Rattle.rules.proofs.Within.{within_open}
use Rattle.rules.proofs.Sound.{Sound, row_of, open_seen, chain-line}
use Rattle.rules.proofs.RefusalFacts.{ok_err, none_nearest}
use Rattle.rules.proofs.Steps.{Step}
use Rattle.rules.proofs.Endings.{ending_step}

in_named : {A : Type 0} (gs : List (Outstanding A)) (g : Outstanding A) → In g gs → named g.row g.serial gs ≡ true
in_named [] g i = absurd i
in_named (h ∷ hs) g (inl k) =
    or_left (eqb h.row g.row && eqb h.serial g.serial) (named g.row g.serial hs)
    (and_from (eqb h.row g.row) (eqb h.serial g.serial) (eq-eqb h.row g.row (ap (λ (x : Outstanding _). x.row) (sym k))) (eq-eqb h.serial g.serial (ap serial_of (sym k))))
in_named (h ∷ hs) g (inr k) = or_right (eqb h.row g.row && eqb h.serial g.serial) (named g.row g.serial hs) (in_named hs g k)

module _ {A : Type 0} {makes : A → A → A → Type 0} {q : Answers A} (laws : Laws makes q) {e : A} {v : Shown A} {s : State A} (sound : Sound makes q e v s) where
  abbrev used : ℕ → A
  used d = (bank-row q s d).used

  -- what comes of a row that is given back
  abbrev pub outcome : ℕ → Grant A → Outcome A
  outcome r w = record {
    answer = Ok 0;
    placed = None;
    after = record {
      last = s.last;
      banks = change_uses q (λ u. q.remainder u w.amount) (chain_of_lem q s w.bank) s.banks;
      grants = set s.grants r (free_grant q.empty);
    };
  }

  module _ (h : Outstanding A) (h-in : In h v.out) where
    abbrev gone : Outstanding A → Bool
    gone g = eqb g.row h.row && eqb g.serial h.serial

    gone_here : gone h ≡ true
    gone_here = and_from (eqb h.row h.row) (eqb h.serial h.serial) (eq-eqb h.row h.row refl) (eq-eqb h.serial h.serial refl)

    same_serial : (g : Outstanding A) → In g v.out → g.serial ≡ h.serial → g ≡ h
    same_serial g i k = climb_same serial_of v.out g h sound.climbs i h-in k

    same_row : (g : Outstanding A) → In g v.out → g.row ≡ h.row → g ≡ h
    same_row g i k = same_serial g i (ap (λ (w : Grant A). w.serial) (sym (sound.granted g i) ∙ ap (grant_row q s) k ∙ sound.granted h h-in))

    gone_sole : (g : Outstanding A) → In g v.out → gone g ≡ true → g ≡ h
    gone_sole g i t = same_serial g i (eqb-true g.serial h.serial (and_parts (eqb g.row h.row) (eqb g.serial h.serial) t).1)

    gone_alone : kept gone v.out ≡ h ∷ []
    gone_alone = kept_sole serial_of gone v.out h sound.climbs h-in gone_here (λ g i t. ap serial_of (gone_sole g i t))

    gone_joins : Joins makes q (amounts (kept gone v.out)) h.amount
    gone_joins = rw gone_alone (h.amount, (laws.neutral h.amount, refl))

    -- a bank that the grant stands in or beneath
    paid : (d : ℕ) → Open v.bank d → within v d h.bank ≡ true → Lowered laws amount_of (λ g. within v d g.bank) gone v.out (used d) h.amount
    paid d o k =
        lowered laws amount_of (λ g. within v d g.bank) gone v.out (used d) h.amount (sound.uses d o) gone_joins
        (λ g i t. ap (λ (x : Outstanding A). within v d x.bank) (gone_sole g i t) ∙ k)

    unpaid : (d : ℕ) → within v d h.bank ≡ false → kept (λ g. within v d g.bank) (kept (λ g. not (gone g)) v.out) ≡ held_in v d
    unpaid d k =
        unlowered laws amount_of (λ g. within v d g.bank) gone v.out
        (λ g i t. from_not (gone g) (λ n. both_ways (within v d g.bank) (ap (λ (x : Outstanding A). within v d x.bank) (gone_sole g i n) ∙ k) t))

    -- so no bank on the chain is short of it
    pub none_short : nearest (short_of q s.banks h.amount) (chain_of_lem q s h.bank) ≡ None
    none_short = none_nearest (short_of q s.banks h.amount) (chain_of_lem q s h.bank) (λ d i.
        let k : within v d h.bank ≡ true = subst (λ (ns : List ℕ). among d ns ≡ true) (chain-line sound h.bank) (in_among d (chain_of_lem q s h.bank) i) in
        not_from_true (q.holds (used d) h.amount) (paid d (within_open v sound.ways h.bank (sound.housed h h-in) d k) k).held)

    abbrev v' : Shown A
    v' = accepted (give_back h.row h.serial) 0 v

    abbrev s' : State A
    s' = (outcome h.row (row_of h)).after

    used_is : (d : ℕ) → Open v.bank d → (bank-row q s' d).used ≡ cond (within v d h.bank) (q.remainder (used d) h.amount) (used d)
    used_is d o =
        used_changed q (λ u. q.remainder u h.amount) (chain_of_lem q s h.bank) s.banks d (row_within q.empty s.banks d (open_seen sound d o.0 o.1).live)
        ∙ ap (λ (ns : List ℕ). cond (among d ns) (q.remainder (used d) h.amount) (used d)) (chain-line sound h.bank)

    back_use : (d : ℕ) → Open v.bank d → (t : Bool) → within v d h.bank ≡ t → Joins makes q (amounts (held_in v' d)) (cond t (q.remainder (used d) h.amount) (used d))
    back_use d o true k = (paid d o k).joined
    back_use d o false k = rw (unpaid d k) (sound.uses d o)

    back_limit : (d : ℕ) (o : Opened A) → v.bank d ≡ Some o → (t : Bool) → within v d h.bank ≡ t → Part makes (cond t (q.remainder (used d) h.amount) (used d)) o.limit
    back_limit d o m true k = lowered_part laws h.amount (q.remainder (used d) h.amount) (used d) o.limit (paid d (o, m) k).whole (sound.limits d o m)
    back_limit d o m false k = sound.limits d o m

    module _ (room : h.row < length s.grants) where
      other_row : (g : Outstanding A) → In g v.out → not (gone g) ≡ true → g.row ≡ h.row → ⊥
      other_row g i t k = both_ways (gone g) (not-true (gone g) t) (ap gone (same_row g i k) ∙ gone_here)

      backed : Sound makes q e v' s'
      backed = record {
        banks_low = rw (length_changed q (λ u. q.remainder u h.amount) (chain_of_lem q s h.bank) s.banks) sound.banks_low;
        banks_high = rw (length_changed q (λ u. q.remainder u h.amount) (chain_of_lem q s h.bank) s.banks) sound.banks_high;
        grants_low = simp length-set sound.grants_low;
        grants_high = simp length-set sound.grants_high;
        same = λ d. sound.same d ∙ sym (seen_changed q (λ u. q.remainder u h.amount) (chain_of_lem q s h.bank) s.banks d);
        root = sound.root;
        ways = sound.ways;
        granted = λ g i. (let k = in_kept (λ x. not (gone x)) v.out g i in
            get_or-set_other s.grants h.row g.row (free_grant q.empty) (free_grant q.empty) (other_row g k.0 k.1) ∙ sound.granted g k.0);
        housed = λ g i. sound.housed g (in_kept (λ x. not (gone x)) v.out g i).0;
        listed = λ n live. elim (cases_eq n h.row) [
          | inl k ↦ absurd (false≢true (sym (ap (λ m. (grant_row q s' m).live) k ∙ ap live_of (get_or-set_same s.grants h.row (free_grant q.empty) (free_grant q.empty) room)) ∙ live))
          | inr k ↦ (let old = sound.listed n (ap live_of (sym (get_or-set_other s.grants h.row n (free_grant q.empty) (free_grant q.empty) k)) ∙ live) in
              (old.0, kept_in (λ x. not (gone x)) v.out old.0 old.1 (not_gone old.0 (λ m. k (sym old.2 ∙ m))), old.2))
        ];
        climbs = climb_kept serial_of (λ x. not (gone x)) v.out sound.climbs;
        issued = λ g i. sound.issued g (in_kept (λ x. not (gone x)) v.out g i).0;
        uses = λ d o. rw (used_is d o) (back_use d o (within v d h.bank) refl);
        limits = λ d o m. rw (used_is d (o, m)) (back_limit d o m (within v d h.bank) refl);
      }
        where
          not_gone : (g : Outstanding A) → (g.row ≡ h.row → ⊥) → not (gone g) ≡ true
          not_gone g n = not_from_false (gone g) (from_not (gone g) (λ t. n (eqb-true g.row h.row (and_parts (eqb g.row h.row) (eqb g.serial h.serial) t).0)))

      pub backed_step : Step makes q e v s (give_back h.row h.serial) (outcome h.row (row_of h))
      backed_step = ending_step sound gone (give_back h.row h.serial) (outcome h.row (row_of h))
          refl (sym (ap serials gone_alone)) refl (omega arith) backed (in_named v.out h h-in) (λ n k. ok_err k)

  -- the outstanding grant of a live row
  pub found : (r n : ℕ) → ((grant_row q s r).live && eqb (grant_row q s r).serial n) ≡ true → (h : Outstanding A) × In h v.out × (h.row ≡ r) × (h.serial ≡ n) × (grant_row q s r ≡ row_of h)
  found r n t =
      let w = grant_row q s r in
      let k = and_parts w.live (eqb w.serial n) t in
      let l = sound.listed r k.0 in
      let is : w ≡ row_of l.0 = ap (grant_row q s) (sym l.2) ∙ sound.granted l.0 l.1 in
      (l.0, l.1, l.2, ap (λ (x : Grant A). x.serial) (sym is) ∙ eqb-true w.serial n k.1, is)
