-- Buy. Assumes nothing.
use Rattle.std.proofs.Common.{◌≡◌, ℕ, ◌+◌, ◌<◌, Bool, true, false, cond, List, [], ◌∷◌, ◌++◌, length, set, Some, None, Ok, sym, refl, ap, ◌∙◌, subst, inl, inr, append-nil, arith, length-set}
use Rattle.std.proofs.lemmas.Bool.{cases_eq, not-false, both_ways, and_parts}
use Rattle.std.proofs.lemmas.List.{get_or-set_same, get_or-set_other, map_push}
use Rattle.kind.specs.Algebra.{Answers, Part}
use Rattle.tables.specs.Tables.{State, among, free_grant}
use Rattle.tables.specs.Rows.{over, change_uses, nearest}
use Rattle.rules.specs.Rules.{buy, live_grant}
use Rattle.rules.specs.Record.{Opened, Outstanding, Shown, accepted, within, held_in, amounts, serials}
use Rattle.rules.specs.Law.{Joins}
use Rattle.rules.proofs.Views.{bank-row, grant_row, chain_of_lem, serial_of, amount_of, live_of}
use Rattle.rules.proofs.Laws.{Laws, join_made, rest_made}
use Rattle.rules.proofs.Joins.{joined-push}
use Rattle.rules.proofs.Kept.{In, in_push, push_in, push-last, kept_push, in_map, map_in}
use Rattle.rules.proofs.Serials.{among_in, climb_push}
use Rattle.rules.proofs.Roads.{Open}
use Rattle.rules.proofs.RowFacts.{row_within, length_changed, seen_changed, used_changed}
use Rattle.rules.proofs.Sound.{Sound, row_of, open_seen, chain-line}
use Rattle.rules.proofs.RefusalFacts.{ok_err, nearest_none}
use Rattle.rules.proofs.Steps.{Step}

module _ {A : Type 0} {makes : A → A → A → Type 0} {q : Answers A} (laws : Laws makes q) {e : A} {v : Shown A} {s : State A} (sound : Sound makes q e v s) (b r : ℕ) (a : A) where
  abbrev new : Outstanding A
  new = record { row = r; serial = s.last + 1; bank = b; amount = a }

  abbrev v' : Shown A
  v' = accepted (buy b r a) (s.last + 1) v

  abbrev s' : State A
  s' = record {
    last = s.last + 1;
    banks = change_uses q (λ u. q.join u a) (chain_of_lem q s b) s.banks;
    grants = set s.grants r (row_of new);
  }

  abbrev used : ℕ → A
  used d = (bank-row q s d).used

  module _ (room : r < length s.grants) (b_open : Open v.bank b) (free : live_grant q s r ≡ false) (fit : nearest (over q s.banks a) (chain_of_lem q s b) ≡ None) where
    taken_rows : (g : Outstanding A) → In g v.out → g.row ≡ r → ⊥
    taken_rows g i h = both_ways (live_grant q s r) free (ap (λ n. live_grant q s n) (sym h) ∙ ap live_of (sound.granted g i))

    -- the banks on the chain take the amount
    fits-at : (d : ℕ) → within v d b ≡ true → (q.fits (used d) a ≡ true) × (q.holds (bank-row q s d).limit (q.join (used d) a) ≡ true)
    fits-at d h =
        let i = among_in d (chain_of_lem q s b) (subst (λ (ns : List ℕ). among d ns ≡ true) (sym (chain-line sound b)) h) in
        and_parts (q.fits (used d) a) (q.holds (bank-row q s d).limit (q.join (used d) a)) (not-false _ (nearest_none (over q s.banks a) (chain_of_lem q s b) fit d i))

    used_is : (d : ℕ) → Open v.bank d → (bank-row q s' d).used ≡ cond (within v d b) (q.join (used d) a) (used d)
    used_is d o =
        used_changed q (λ u. q.join u a) (chain_of_lem q s b) s.banks d (row_within q.empty s.banks d (open_seen sound d o.0 o.1).live)
        ∙ ap (λ (ns : List ℕ). cond (among d ns) (q.join (used d) a) (used d)) (chain-line sound b)

    bought_use : (d : ℕ) → Open v.bank d → (t : Bool) → within v d b ≡ t → Joins makes q (amounts (held_in v d ++ cond t (new ∷ []) [])) (cond t (q.join (used d) a) (used d))
    bought_use d o true h =
        let joins = join_made laws (used d) a (fits-at d h).0 in
        rw (map_push amount_of (held_in v d) new) (joined-push laws (amounts (held_in v d)) q.empty (used d) a (q.join (used d) a) (sound.uses d o) joins)
    bought_use d o false h = rw append-nil (sound.uses d o)

    bought_limit : (d : ℕ) (o : Opened A) → v.bank d ≡ Some o → (t : Bool) → within v d b ≡ t → Part makes (cond t (q.join (used d) a) (used d)) o.limit
    bought_limit d o k true h =
        let l = (bank-row q s d).limit in
        subst (λ x. Part makes (q.join (used d) a) x) (open_seen sound d o k).limit (q.remainder l (q.join (used d) a), rest_made laws l (q.join (used d) a) (fits-at d h).1)
    bought_limit d o k false h = sound.limits d o k

    bought : Sound makes q e v' s'
    bought = record {
      banks_low = rw (length_changed q (λ u. q.join u a) (chain_of_lem q s b) s.banks) sound.banks_low;
      banks_high = rw (length_changed q (λ u. q.join u a) (chain_of_lem q s b) s.banks) sound.banks_high;
      grants_low = simp length-set sound.grants_low;
      grants_high = simp length-set sound.grants_high;
      same = λ d. sound.same d ∙ sym (seen_changed q (λ u. q.join u a) (chain_of_lem q s b) s.banks d);
      root = sound.root;
      ways = sound.ways;
      granted = λ g i. elim (in_push v.out g new i) [
        | inl k ↦ get_or-set_other s.grants r g.row (row_of new) (free_grant q.empty) (taken_rows g k) ∙ sound.granted g k
        | inr k ↦ subst (λ (h : Outstanding A). grant_row q s' h.row ≡ row_of h) (sym k) (get_or-set_same s.grants r (row_of new) (free_grant q.empty) room)
      ];
      housed = λ g i. elim (in_push v.out g new i) [
        | inl k ↦ sound.housed g k
        | inr k ↦ subst (λ (h : Outstanding A). Open v.bank h.bank) (sym k) b_open
      ];
      listed = λ n h. elim (cases_eq n r) [
        | inl k ↦ (new, push-last v.out new, sym k)
        | inr k ↦ (let old = sound.listed n (ap live_of (sym (get_or-set_other s.grants r n (row_of new) (free_grant q.empty) k)) ∙ h) in
            (old.0, push_in v.out old.0 new old.1, old.2))
      ];
      climbs = climb_push serial_of v.out new sound.climbs (λ g i. let l = sound.issued g i in omega arith);
      issued = λ g i. elim (in_push v.out g new i) [
        | inl k ↦ (let l = sound.issued g k in omega arith)
        | inr k ↦ (let l = ap serial_of k in omega arith)
      ];
      uses = λ d o. rw (kept_push (λ (g : Outstanding A). within v d g.bank) v.out new) (rw (used_is d o) (bought_use d o (within v d b) refl));
      limits = λ d o h. rw (used_is d (o, h)) (bought_limit d o h (within v d b) refl);
    }

    pub bought_step : Step makes q e v s (buy b r a) (record { answer = Ok (s.last + 1); placed = None; after = s' })
    bought_step = record {
      sound = bought;
      fair = tt;
      orderly = λ n h. ok_err h;
      rises = omega arith;
      issued_new = λ n i. elim i [ inl h ↦ (omega arith, omega arith) | inr h ↦ absurd h ];
      issued_once = (refl, tt);
      ended_held = λ n i. absurd i;
      ended_once = tt;
      ended_gone = λ n i. absurd i;
      held_before = λ n i. (let k = in_map serial_of (v.out ++ new ∷ []) n i in
          elim (in_push v.out k.0 new k.1.0) [
            | inl h ↦ inl (subst (λ m. In m (serials v.out)) (sym k.1.1) (map_in serial_of v.out k.0 h))
            | inr h ↦ inr (let l = ap serial_of h in let m = k.1.1 in omega arith)
          ]);
    }
