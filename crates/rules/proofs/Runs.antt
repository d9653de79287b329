-- What holds after each step of a list of calls. Assumes nothing.
use Rattle.std.proofs.Common.{ℕ, ◌≤◌, List, [], ◌∷◌, inl, inr, arith}
use Rattle.kind.specs.Algebra.{Answers}
use Rattle.tables.specs.Tables.{State}
use Rattle.rules.specs.Rules.{Call, ask}
use Rattle.rules.specs.Record.{shown, issues, ends, issued, ended, serials}
use Rattle.rules.specs.Law.{Distinct, after, written, AllFair, Orderly}
use Rattle.rules.proofs.Views.{serial_of}
use Rattle.rules.proofs.Laws.{Laws}
use Rattle.rules.proofs.Kept.{In, in_map}
use Rattle.rules.proofs.Serials.{in_either, distinct_both}
use Rattle.rules.proofs.Sound.{Sound}
use Rattle.rules.proofs.Steps.{Step}
use Rattle.rules.proofs.Calls.{each_step}

module _ {A : Type 0} (makes : A → A → A → Type 0) (q : Answers A) (e : A) (start : State A) where
  pub record Run (cs : List (Call A)) : Type 0 where
    pub sound : Sound makes q e (shown e (written makes q start cs)) (after makes q start cs)
    pub fair : AllFair makes q e (written makes q start cs)
    pub orderly : Orderly makes q (written makes q start cs)
    pub issued_once : Distinct (issued (written makes q start cs))
    pub issued_low : (n : ℕ) → In n (issued (written makes q start cs)) → n ≤ (after makes q start cs).last
    pub ended_once : Distinct (ended e (written makes q start cs))
    pub ended_low : (n : ℕ) → In n (ended e (written makes q start cs)) → n ≤ (after makes q start cs).last
    pub ended_gone : (n : ℕ) → In n (ended e (written makes q start cs)) → In n (serials (shown e (written makes q start cs)).out) → ⊥

module _ {A : Type 0} {makes : A → A → A → Type 0} {q : Answers A} (laws : Laws makes q) {e : A} where
  module _ (start : State A) where
    run_on : (c : Call A) (cs : List (Call A)) → Run makes q e start cs → Run makes q e start (c ∷ cs)
    run_on c cs run =
        let s = after makes q start cs in
        let v = shown e (written makes q start cs) in
        let old = written makes q start cs in
        let step : Step makes q e v s c (ask q c s) = each_step laws run.sound c in
        let up : s.last ≤ (ask q c s).after.last = step.rises in
        record {
          sound = step.sound;
          fair = (step.fair, run.fair);
          orderly = (step.orderly, run.orderly);
          issued_once = distinct_both (issues c (ask q c s).answer) (issued old) step.issued_once run.issued_once
              (λ n i j. (let a = (step.issued_new n i).0 in let b = run.issued_low n j in omega arith));
          issued_low = λ n i. elim (in_either (issues c (ask q c s).answer) (issued old) n i) [
            | inl j ↦ (step.issued_new n j).1
            | inr j ↦ (let b = run.issued_low n j in omega arith)
          ];
          ended_once = distinct_both (ends v c (ask q c s).answer) (ended e old) step.ended_once run.ended_once
              (λ n i j. run.ended_gone n j (step.ended_held n i));
          ended_low = λ n i. elim (in_either (ends v c (ask q c s).answer) (ended e old) n i) [
            | inl j ↦ (let k = in_map serial_of v.out n (step.ended_held n j) in
                let same = k.1.1 in
                let b = run.sound.issued k.0 k.1.0 in
                omega arith)
            | inr j ↦ (let b = run.ended_low n j in omega arith)
          ];
          ended_gone = λ n i k. elim (in_either (ends v c (ask q c s).answer) (ended e old) n i) [
            | inl j ↦ step.ended_gone n j k
            | inr j ↦ elim (step.held_before n k) [
              | inl l ↦ run.ended_gone n j l
              | inr l ↦ (let b = run.ended_low n j in omega arith)
            ]
          ];
        }

    pub runs : Sound makes q e (shown e []) start → (cs : List (Call A)) → Run makes q e start cs
    runs begins [] = record {
      sound = begins;
      fair = tt;
      orderly = tt;
      issued_once = tt;
      issued_low = λ n i. absurd i;
      ended_once = tt;
      ended_low = λ n i. absurd i;
      ended_gone = λ n i. absurd i;
    }
    runs begins (c ∷ cs) = run_on c cs (runs begins cs)
