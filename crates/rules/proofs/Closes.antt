-- What is shown once a bank and all beneath it are closed. Assumes nothing.
use Rattle.std.proofs.Common.{◌≡◌, ℕ, Bool, true, false, cond, List, [], ◌∷◌, Some, None, Option, sym, refl, ◌∙◌, inr}
use Rattle.std.proofs.lemmas.Bool.{both_ways, ne_eqb}
use Rattle.tables.specs.Tables.{among}
use Rattle.tables.specs.Rows.{above}
use Rattle.rules.specs.Rules.{reclaim}
use Rattle.rules.specs.Record.{Opened, Shown, accepted, line, within}
use Rattle.rules.proofs.Kept.{In}
use Rattle.rules.proofs.Serials.{from_not}
use Rattle.rules.proofs.Roads.{Road, Open, road_stays, road_at_root}
use Rattle.rules.proofs.Within.{Way, Ways, line_way, in_way, way_in, within_trans}
use Rattle.rules.proofs.RefusalFacts.{none_some}

module _ {A : Type 0} (bank : ℕ → Option (Opened A)) where
  -- the chain of a bank without the bank
  pub road_above : (d b : ℕ) (xs : List ℕ) → Road bank d xs → (b ≡ d → ⊥) → among b (above xs) ≡ among b xs
  road_above d b [] r n = absurd r
  road_above d b (x ∷ []) r n = rw (ne_eqb b x (λ k. n (k ∙ r.1)))
  road_above d b (x ∷ y ∷ ys) r n = rw (ne_eqb b x (λ k. n (k ∙ r.1)))

  pub in_above : (b : ℕ) (xs : List ℕ) → In b (above xs) → In b xs
  in_above b [] i = absurd i
  in_above b (x ∷ xs) i = inr i

module _ {A : Type 0} (v : Shown A) (d : ℕ) where
  abbrev pub closed : Shown A
  closed = accepted (reclaim d) 0 v

  pub still_open : (b : ℕ) → within v d b ≡ false → closed.bank b ≡ v.bank b
  still_open b h = rw h

  pub was_open : (b : ℕ) (o : Opened A) → closed.bank b ≡ Some o → (within v d b ≡ false) × (v.bank b ≡ Some o)
  was_open b o h = go (within v d b) refl h
    where
      go : (t : Bool) → within v d b ≡ t → cond t None (v.bank b) ≡ Some o → (within v d b ≡ false) × (v.bank b ≡ Some o)
      go true k m = none_some o (sym m)
      go false k m = (k, m)

  module _ (ways : Ways v) where
    pub root_stays : Open v.bank 0 → (d ≡ 0 → ⊥) → within v d 0 ≡ false
    root_stays o n = from_not (within v d 0) (λ t. let w = ways 0 o in n (road_at_root v.bank w.0 d w.1 (in_way v d 0 w t)))

    -- no bank on the way of an open bank is closed
    abbrev pub way_stays : (b : ℕ) → within v d b ≡ false → Open v.bank b → Way closed b
    way_stays b h o =
        let w = ways b o in
        let off = (λ (x : ℕ) (i : In x w.0). from_not (within v d x) (λ t. both_ways (within v d b) h (within_trans v ways b o x d (way_in v x b w i) t))) in
        (w.0, road_stays v.bank closed.bank b w.0 w.1 (λ x i. still_open x (off x i)), w.2)

    pub same_line : (b : ℕ) → within v d b ≡ false → Open v.bank b → line closed b ≡ line v b
    same_line b h o = line_way closed b (way_stays b h o) ∙ sym (line_way v b (ways b o))
