-- The books, from what holds after each step. Assumes nothing.
use Rattle.std.proofs.Common.{◌≡◌, ℕ, ◌≤◌, true, List, length, Some, None, sym, subst}
use Rattle.kind.specs.Algebra.{Answers, Part}
use Rattle.tables.specs.Tables.{State}
use Rattle.rules.specs.Rules.{Call, fresh, misfit}
use Rattle.rules.specs.Record.{Outstanding, Shown, Opened, within, held_in, amounts}
use Rattle.rules.specs.Law.{Joins, Balanced, Bounded, Books}
use Rattle.rules.proofs.Fitted.{fitted}
use Rattle.rules.proofs.Views.{bank-row, serial_of, amount_of}
use Rattle.rules.proofs.Laws.{Laws, part_trans}
use Rattle.rules.proofs.Joins.{taken}
use Rattle.rules.proofs.Kept.{kept_all, kept-within}
use Rattle.rules.proofs.Serials.{climb_rising}
use Rattle.rules.proofs.Within.{within_root, within_open, within_trans}
use Rattle.rules.proofs.Sound.{Sound}
use Rattle.rules.proofs.Stocks.{stock_told, stock-whole}
use Rattle.rules.proofs.Begins.{begins}
use Rattle.rules.proofs.Runs.{runs}

module _ {A : Type 0} {makes : A → A → A → Type 0} {q : Answers A} (laws : Laws makes q) {e : A} where
  module _ {v : Shown A} {s : State A} (sound : Sound makes q e v s) where
    abbrev used : ℕ → A
    used b = (bank-row q s b).used

    all_held : held_in v 0 ≡ v.out
    all_held = kept_all (λ g. within v 0 g.bank) v.out (λ g i. within_root v sound.ways g.bank (sound.housed g i))

    balanced : Balanced makes q e s v
    balanced = record {
      left = q.remainder (bank-row q s 0).limit (used 0);
      out = used 0;
      stocked = stock_told laws sound;
      joined = subst (λ (gs : List (Outstanding A)). Joins makes q (amounts gs) (used 0)) all_held (sound.uses 0 (record { parent = 0; limit = e }, sound.root));
      whole = stock-whole laws sound;
    }

    -- what is used of a bank is a part of what is used of each bank above it
    used_part : (b : ℕ) (o : Opened A) → v.bank b ≡ Some o → (d : ℕ) → within v d b ≡ true → Part makes (used b) (used d)
    used_part b o h d w =
        let t = taken laws amount_of (λ g. within v b g.bank) (held_in v d) (used b) (used d)
        (sound.uses d (within_open v sound.ways b (o, h) d w))
        (rw (kept-within (λ g. within v b g.bank) (λ g. within v d g.bank) v.out (λ g i k. within_trans v sound.ways g.bank (sound.housed g i) b d k w)) (sound.uses b (o, h))) in
        (t.0, t.1.1)

    bounded : Bounded makes q v
    bounded b o h = (used b, (sound.uses b (o, h), λ d p w k. part_trans laws (used b) (used d) p.limit (used_part b o h d w) (sound.limits d p k)))

  pub books : (banks grants : ℕ) → 1 ≤ banks → banks ≤ 64 → 1 ≤ grants → grants ≤ 1024 → (calls : List (Call A)) → Books makes q e (fresh q e banks grants) calls
  books banks grants bl bh gl gh calls =
      let run = runs laws (fresh q e banks grants) (begins laws e banks grants bl bh gl gh) calls in
      record {
        balanced = balanced run.sound;
        bounded = bounded run.sound;
        fair = run.fair;
        once_issued = run.issued_once;
        once_ended = run.ended_once;
        orderly = run.orderly;
        in_order = climb_rising serial_of _ run.sound.climbs;
      }

  -- a ledger that set-up left keeps its books
  pub kept_by : (s start : State A) → None ≡ misfit q s → start ≡ fresh q e (length s.banks) (length s.grants) → (calls : List (Call A)) → Books makes q e start calls
  kept_by s start fit is calls =
      let f = fitted q s (sym fit) in
      subst (λ (t : State A). Books makes q e t calls) (sym is) (books (length s.banks) (length s.grants) f.0 f.1 f.2 f.3 calls)
