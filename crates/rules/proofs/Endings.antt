-- A call that ends some of the outstanding grants: those that a test picks. Assumes nothing.
use Rattle.std.proofs.Common.{◌≡◌, ℕ, ◌≤◌, Bool, true, not, List, [], Err, sym, ap, ◌∙◌, subst, inl}
use Rattle.std.proofs.lemmas.Bool.{both_ways, not-true}
use Rattle.kind.specs.Algebra.{Answers}
use Rattle.tables.specs.declared.refusal.Refusal.TheVariants.{OutOfOrder}
use Rattle.tables.specs.Tables.{State}
use Rattle.rules.specs.Rules.{Call, Outcome}
use Rattle.rules.specs.Record.{kept, Outstanding, Shown, noted, issues, ends, serials}
use Rattle.rules.specs.Law.{Fair, Distinct}
use Rattle.rules.proofs.Views.{serial_of}
use Rattle.rules.proofs.Kept.{In, in_kept, in_map, map_in}
use Rattle.rules.proofs.Serials.{climb_kept, climb_same, climb_distinct}
use Rattle.rules.proofs.Sound.{Sound}
use Rattle.rules.proofs.Steps.{Step, nothing, once_nothing}

serial-kept : {A : Type 0} (p : Outstanding A → Bool) (gs : List (Outstanding A)) (n : ℕ) → In n (serials (kept p gs)) → (g : Outstanding A) × In g gs × (p g ≡ true) × (n ≡ g.serial)
serial-kept p gs n i =
    let k = in_map serial_of (kept p gs) n i in
    let l = in_kept p gs k.0 k.1.0 in
    (k.0, l.0, l.1, k.1.1)

module _ {A : Type 0} {makes : A → A → A → Type 0} {q : Answers A} {e : A} {v : Shown A} {s : State A} (sound : Sound makes q e v s) (gone : Outstanding A → Bool) where
  still_held : (p : Outstanding A → Bool) (n : ℕ) → In n (serials (kept p v.out)) → In n (serials v.out)
  still_held p n i =
      let g = serial-kept p v.out n i in
      subst (λ m. In m (serials v.out)) (sym g.3) (map_in serial_of v.out g.0 g.1)

  gone_apart : (n : ℕ) → In n (serials (kept gone v.out)) → In n (serials (kept (λ g. not (gone g)) v.out)) → ⊥
  gone_apart n i j =
      let g = serial-kept gone v.out n i in
      let h = serial-kept (λ x. not (gone x)) v.out n j in
      let same = climb_same serial_of v.out g.0 h.0 sound.climbs g.1 h.1 (sym g.3 ∙ h.3) in
      both_ways (gone h.0) (not-true (gone h.0) h.2) (ap gone (sym same) ∙ g.2)

  pub ending_step : (c : Call A) (o : Outcome A) → issues c o.answer ≡ [] → ends v c o.answer ≡ serials (kept gone v.out) → (noted c o.answer v).out ≡ kept (λ g. not (gone g)) v.out →
      s.last ≤ o.after.last → Sound makes q e (noted c o.answer v) o.after → Fair makes q v c o.answer o.placed → ((n : ℕ) → o.answer ≡ Err (OutOfOrder n) → ⊥) → Step makes q e v s c o
  ending_step c o no-issue ended left up still fair orderly = record {
    sound = still;
    fair = fair;
    orderly = orderly;
    rises = up;
    issued_new = nothing sound _ (issues c o.answer) no-issue;
    issued_once = once_nothing sound (issues c o.answer) no-issue;
    ended_held = λ n i. still_held gone n (subst (λ (ns : List ℕ). In n ns) ended i);
    ended_once = subst (λ (ns : List ℕ). Distinct ns) (sym ended) (climb_distinct serial_of (kept gone v.out) (climb_kept serial_of gone v.out sound.climbs));
    ended_gone = λ n i j. gone_apart n (subst (λ (ns : List ℕ). In n ns) ended i) (subst (λ (gs : List (Outstanding A)). In n (serials gs)) left j);
    held_before = λ n i. inl (still_held (λ g. not (gone g)) n (subst (λ (gs : List (Outstanding A)). In n (serials gs)) left i));
  }
