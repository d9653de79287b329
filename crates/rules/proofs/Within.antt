-- Which bank stands beneath which, where every open bank has its way up. Assumes nothing.
use Rattle.std.proofs.Common.{◌≡◌, ℕ, ◌≤◌, true, ◌⊎◌, List, length, sym, subst, inl, inr, arith}
use Rattle.tables.specs.Tables.{among}
use Rattle.rules.specs.Record.{Shown, line, within}
use Rattle.rules.proofs.Kept.{In}
use Rattle.rules.proofs.Serials.{among_in, in_among}
use Rattle.rules.proofs.Roads.{Road, Open, road_here, road_root, road_open, road_from, road_order, road_line}

module _ {A : Type 0} (v : Shown A) where
  abbrev pub Way : ℕ → Type 0
  Way b = (xs : List ℕ) × Road v.bank b xs × (length xs ≤ 16)

  abbrev pub Ways : Type 0
  Ways = (b : ℕ) → Open v.bank b → Way b

  pub line_way : (b : ℕ) (w : Way b) → line v b ≡ w.0
  line_way b w = let l : length w.0 ≤ 16 = w.2 in road_line v.bank 64 b w.0 w.1 (omega arith)

  pub in_way : (d b : ℕ) (w : Way b) → within v d b ≡ true → In d w.0
  in_way d b w h = among_in d w.0 (subst (λ (ns : List ℕ). among d ns ≡ true) (line_way b w) h)

  pub way_in : (d b : ℕ) (w : Way b) → In d w.0 → within v d b ≡ true
  way_in d b w i = subst (λ (ns : List ℕ). among d ns ≡ true) (sym (line_way b w)) (in_among d w.0 i)

  module _ (ways : Ways) (b : ℕ) (o : Open v.bank b) where
    pub within_self : within v b b ≡ true
    within_self = let w = ways b o in way_in b b w (road_here v.bank b w.0 w.1)

    pub within_root : within v 0 b ≡ true
    within_root = let w = ways b o in way_in 0 b w (road_root v.bank b w.0 w.1)

    pub within_open : (d : ℕ) → within v d b ≡ true → Open v.bank d
    within_open d h = let w = ways b o in road_open v.bank b w.0 d w.1 (in_way d b w h)

    pub within_trans : (d e : ℕ) → within v d b ≡ true → within v e d ≡ true → within v e b ≡ true
    within_trans d e h k =
        let w = ways b o in
        let r = road_from v.bank b w.0 d w.1 (in_way d b w h) in
        let l : length w.0 ≤ 16 = w.2 in
        let m : length r.0 ≤ length w.0 = r.3 in
        way_in e b w (r.2 e (in_way e d (r.0, r.1, omega arith) k))

    pub within_order : (d e : ℕ) → within v d b ≡ true → within v e b ≡ true → (within v d e ≡ true) ⊎ (within v e d ≡ true)
    within_order d e h k =
        let w = ways b o in
        let wd = ways d (within_open d h) in
        let we = ways e (within_open e k) in
        elim (road_order v.bank b w.0 d e wd.0 we.0 w.1 (in_way d b w h) (in_way e b w k) wd.1 we.1) [
          | inl i ↦ inl (way_in d e we i)
          | inr i ↦ inr (way_in e d wd i)
        ]
