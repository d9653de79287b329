-- Where each live bank has a whole chain, the banks that have none are those that are not live.
use Rattle.std.proofs.Common.{◌≡◌, ℕ, zero, suc, ◌+◌, ◌<◌, Bool, true, false, cond, not, ◌&&◌, List, [], ◌∷◌, length, get_or, Some, None, sym, refl, ap, ◌∙◌, subst, add-zero, zero-add, arith}
use Rattle.kind.specs.Algebra.{Answers}
use Rattle.tables.specs.declared.rows.Bank.{Bank}
use Rattle.tables.specs.declared.rows.Grant.{Grant}
use Rattle.tables.specs.Tables.{free_bank, bank_at, lost}
use Rattle.tables.specs.Rows.{lowest, lost_bank, bank_lost, grant_lost}
use Rattle.ledger.proofs.Climbs.{live_within, free_lost}

-- a row that passed the test would be found
missed : {X : Type 0} (f : ℕ → X → Bool) (i : ℕ) (x : X) (xs : List X) (t : Bool) → f i x ≡ t → cond t (Some i) (lowest f (suc i) xs) ≡ None
    → (f i x ≡ false) × (lowest f (suc i) xs ≡ None)
missed f i x xs true e none = absurd (grind (arith, none))
missed f i x xs false e none = (e, none)

lowest_misses : {X : Type 0} (f : ℕ → X → Bool) (i : ℕ) (xs : List X) (d : X) (k : ℕ) → lowest f i xs ≡ None → k < length xs → f (k + i) (get_or xs k d) ≡ false
lowest_misses f i [] d k none h = absurd (omega arith)
lowest_misses f i (x ∷ xs) d zero none h = subst (λ n. f n x ≡ false) (sym (zero-add i)) (missed f i x xs _ refl none).0
lowest_misses f i (x ∷ xs) d (suc k) none h = subst (λ n. f n (get_or xs k d) ≡ false) (omega arith) (lowest_misses f (suc i) xs d k (missed f i x xs _ refl none).1 (omega arith))

module _ {A : Type 0} (q : Answers A) (banks : List (Bank A)) (whole : lost_bank q banks ≡ None) where
  lost_by : (b : ℕ) (l : Bool) → (bank_at q.empty banks b).live ≡ l → lost q.empty banks b ≡ not l
  lost_by b false e = free_lost q.empty banks b e
  lost_by b true e =
      let test = subst (λ n. bank_lost q banks n (bank_at q.empty banks b) ≡ false) (add-zero b) (lowest_misses (bank_lost q banks) 0 banks (free_bank q.empty) b whole (live_within q.empty banks b e)) in
      sym (ap (λ (l : Bool). l && lost q.empty banks b) e) ∙ test

  -- a live grant is lost exactly if its bank is not live; the grant of row i reads as x
  pub stray : (grants : List (Grant A)) (i : ℕ) (x : Grant A) (t : Bool) → x ≡ get_or grants i x → t ≡ (x.live && not (bank_at q.empty banks x.bank).live)
      → grant_lost q banks i (get_or grants i x) ≡ t
  stray grants i x t read is = ap (grant_lost q banks i) (sym read) ∙ ap (λ (l : Bool). x.live && l) (lost_by x.bank _ refl) ∙ sym is
