-- What one call does to a ledger and to what is shown: the form that the proof for each call has. Assumes nothing.
use Rattle.std.proofs.Common.{◌≡◌, ℕ, ◌<◌, ◌≤◌, false, ◌⊎◌, List, [], Some, None, Err, Option, Result, sym, refl, ap, ◌∙◌, subst, inl, true≢false, arith}
use Rattle.kind.specs.Algebra.{Answers}
use Rattle.tables.specs.declared.refusal.Refusal.{Refusal}
use Rattle.tables.specs.declared.refusal.Refusal.TheVariants.{OutOfOrder}
use Rattle.tables.specs.Tables.{State}
use Rattle.rules.specs.Rules.{Call, open_bank, buy, give_back, reclaim, hand_up, stock, Outcome, refused, unless}
use Rattle.rules.specs.Record.{Shown, noted, issues, ends, serials}
use Rattle.rules.specs.Law.{Fair, Distinct}
use Rattle.rules.proofs.Kept.{In}
use Rattle.rules.proofs.Sound.{Sound}
use Rattle.rules.proofs.RefusalFacts.{disorder, Orders}

module _ {A : Type 0} (makes : A → A → A → Type 0) (q : Answers A) where
  pub record Step (e : A) (v : Shown A) (s : State A) (c : Call A) (o : Outcome A) : Type 0 where
    pub sound : Sound makes q e (noted c o.answer v) o.after
    pub fair : Fair makes q v c o.answer o.placed
    pub orderly : (n : ℕ) → o.answer ≡ Err (OutOfOrder n) → ⊥
    pub rises : s.last ≤ o.after.last
    pub issued_new : (n : ℕ) → In n (issues c o.answer) → (s.last < n) × (n ≤ o.after.last)
    pub issued_once : Distinct (issues c o.answer)
    pub ended_held : (n : ℕ) → In n (ends v c o.answer) → In n (serials v.out)
    pub ended_once : Distinct (ends v c o.answer)
    pub ended_gone : (n : ℕ) → In n (ends v c o.answer) → In n (serials (noted c o.answer v).out) → ⊥
    pub held_before : (n : ℕ) → In n (serials (noted c o.answer v).out) → In n (serials v.out) ⊎ (s.last < n)

module _ {A : Type 0} {makes : A → A → A → Type 0} {q : Answers A} {e : A} {v : Shown A} {s : State A} (sound : Sound makes q e v s) where
  fair-refused : (c : Call A) (r : Refusal) → Fair makes q v c (Err r) None
  fair-refused (open_bank p c limit) r = tt
  fair-refused (buy b w a) r = tt
  fair-refused (give_back w n) r = tt
  fair-refused (reclaim d) r = tt
  fair-refused (hand_up d) r = tt
  fair-refused stock r = tt

  issues-refused : (c : Call A) (r : Refusal) → issues c (Err r) ≡ []
  issues-refused (open_bank p c limit) r = refl
  issues-refused (buy b w a) r = refl
  issues-refused (give_back w n) r = refl
  issues-refused (reclaim d) r = refl
  issues-refused (hand_up d) r = refl
  issues-refused stock r = refl

  ends-refused : (c : Call A) (r : Refusal) → ends v c (Err r) ≡ []
  ends-refused (open_bank p c limit) r = refl
  ends-refused (buy b w a) r = refl
  ends-refused (give_back w n) r = refl
  ends-refused (reclaim d) r = refl
  ends-refused (hand_up d) r = refl
  ends-refused stock r = refl

  pub nothing : (P : ℕ → Type 0) (xs : List ℕ) → xs ≡ [] → (n : ℕ) → In n xs → P n
  nothing P xs h n i = absurd (subst (λ (ns : List ℕ). In n ns) h i)

  pub once_nothing : (xs : List ℕ) → xs ≡ [] → Distinct xs
  once_nothing xs h = subst (λ (ns : List ℕ). Distinct ns) (sym h) tt

  -- a call that issues nothing and ends nothing
  pub quiet_step : (c : Call A) (o : Outcome A) → issues c o.answer ≡ [] → ends v c o.answer ≡ [] → s.last ≤ o.after.last →
      Sound makes q e (noted c o.answer v) o.after → Fair makes q v c o.answer o.placed → ((n : ℕ) → o.answer ≡ Err (OutOfOrder n) → ⊥) →
      ((n : ℕ) → In n (serials (noted c o.answer v).out) → In n (serials v.out)) → Step makes q e v s c o
  quiet_step c o no-issue no_end up still fair orderly before = record {
    sound = still;
    fair = fair;
    orderly = orderly;
    rises = up;
    issued_new = nothing (λ n. (s.last < n) × (n ≤ o.after.last)) (issues c o.answer) no-issue;
    issued_once = once_nothing (issues c o.answer) no-issue;
    ended_held = nothing (λ n. In n (serials v.out)) (ends v c o.answer) no_end;
    ended_once = once_nothing (ends v c o.answer) no_end;
    ended_gone = nothing (λ n. In n (serials (noted c o.answer v).out) → ⊥) (ends v c o.answer) no_end;
    held_before = λ n i. inl (before n i);
  }

  refused_step : (c : Call A) (r : Refusal) → disorder r ≡ false → Step makes q e v s c (refused q r s)
  refused_step c r d = quiet_step c (refused q r s) (issues-refused c r) (ends-refused c r) (omega arith) sound (fair-refused c r) in_order (λ n i. i)
    where
      in_order : (n : ℕ) → ◌≡◌ {A = Result ℕ Refusal} (Err r) (Err (OutOfOrder n)) → ⊥
      in_order n h = let k : r ≡ OutOfOrder n = cc in true≢false (sym (ap disorder k) ∙ d)

  -- a call is refused, which changes nothing, or is accepted
  pub either_way : (c : Call A) (x : Option Refusal) (o : Outcome A) → Orders x → (x ≡ None → Step makes q e v s c o) → Step makes q e v s c (unless q x s o)
  either_way c None o h k = k refl
  either_way c (Some r) o h k = refused_step c r h
