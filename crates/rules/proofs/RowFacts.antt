-- Rows of the tables: what is shown of a row, what a row reads after a change, and chains as ways. Assumes nothing.
use Rattle.std.proofs.Common.{◌≡◌, ℕ, zero, suc, ◌+◌, ◌<◌, ◌≤◌, Bool, true, false, cond, ◌&&◌, List, [], ◌∷◌, length, get_or, Some, None, Option, sym, refl, ap, ◌∙◌, inl, inr, zero-add, arith}
use Rattle.std.proofs.lemmas.Bool.{eq-eqb, ne_eqb, cases_lt, false≢true}
use Rattle.std.proofs.lemmas.List.{get_or_past}
use Rattle.tables.specs.declared.rows.Bank.{Bank}
use Rattle.kind.specs.Algebra.{Answers}
use Rattle.tables.specs.Tables.{among, bank_at, free_bank, chain_in}
use Rattle.tables.specs.Rows.{each_at, change_use, change_uses, freed_bank}
use Rattle.rules.specs.Record.{Opened}
use Rattle.rules.proofs.Views.{used_of}
use Rattle.rules.proofs.Roads.{Road}

pub length-each_at : {X Y : Type 0} (f : ℕ → X → Y) (i : ℕ) (xs : List X) → length (each_at f i xs) ≡ length xs
length-each_at f i [] = refl
length-each_at f i (x ∷ xs) = ap suc (length-each_at f (suc i) xs)

each_from : {X : Type 0} (f : ℕ → X → X) (i : ℕ) (xs : List X) (k : ℕ) (d : X) → k < length xs → get_or (each_at f i xs) k d ≡ f (k + i) (get_or xs k d)
each_from f i [] k d h = absurd (omega arith)
each_from f i (x ∷ xs) zero d h = ap (λ n. f n x) (sym (zero-add i))
each_from f i (x ∷ xs) (suc k) d h = each_from f (suc i) xs k d (omega arith) ∙ ap (λ n. f n (get_or xs k d)) (omega arith)

pub getD_each_at : {X : Type 0} (f : ℕ → X → X) (xs : List X) (k : ℕ) (d : X) → k < length xs → get_or (each_at f 0 xs) k d ≡ f k (get_or xs k d)
getD_each_at f xs k d h = each_from f 0 xs k d h ∙ ap (λ n. f n (get_or xs k d)) (omega arith)

module _ {A : Type 0} where
  abbrev pub seen : Bank A → Option (Opened A)
  seen row = cond row.live (Some (record { parent = row.parent; limit = row.limit })) None

  pub record Seen (row : Bank A) (o : Opened A) : Type 0 where
    pub live : row.live ≡ true
    pub parent : row.parent ≡ o.parent
    pub limit : row.limit ≡ o.limit

  pub seen_open : (row : Bank A) (o : Opened A) → seen row ≡ Some o → Seen row o
  seen_open row o h = go row.live refl h
    where
      go : (t : Bool) → row.live ≡ t → cond t (Some (record { parent = row.parent; limit = row.limit })) None ≡ Some o → Seen row o
      go true l e =
          let same : ◌≡◌ {A = Opened A} (record { parent = row.parent; limit = row.limit }) o = cc in
          record { live = l; parent = ap (λ (x : Opened A). x.parent) same; limit = ap (λ (x : Opened A). x.limit) same }
      go false l e = let z : ◌≡◌ {A = ℕ} 0 1 = cc in absurd (omega arith)

  pub seen_live : (row : Bank A) → row.live ≡ true → seen row ≡ Some (record { parent = row.parent; limit = row.limit })
  seen_live row h = rw h

  pub seen_free : (row : Bank A) → row.live ≡ false → seen row ≡ None
  seen_free row h = rw h

  -- a chain in the table is the way
  module _ (none : A) (banks : List (Bank A)) (bank : ℕ → Option (Opened A)) (same : (b : ℕ) → bank b ≡ seen (bank_at none banks b)) where
    pub road_chain : (n b : ℕ) (xs : List ℕ) → Road bank b xs → length xs ≤ n → chain_in none n banks b ≡ xs
    road_chain n b [] r l = absurd r
    road_chain zero b (x ∷ []) r l = absurd (omega arith)
    road_chain zero b (x ∷ y ∷ ys) r l = absurd (omega arith)
    road_chain (suc n) b (x ∷ []) r l =
        let t = seen_open (bank_at none banks b) r.0 (sym (same b) ∙ r.2) in
        rw t.live (rw (eq-eqb b 0 r.3) (ap {B = List ℕ} (λ z. z ∷ []) (sym (r.1 ∙ r.3))))
    road_chain (suc n) b (x ∷ y ∷ ys) r l =
        let t = seen_open (bank_at none banks b) r.0 (sym (same b) ∙ r.2) in
        rw t.live (rw (ne_eqb b 0 r.3) (rw t.parent (rw (road_chain n r.0.parent (y ∷ ys) r.4 (omega arith)) (ap {B = List ℕ} (λ z. z ∷ (y ∷ ys)) (sym r.1)))))

  pub row_within : (none : A) (banks : List (Bank A)) (b : ℕ) → (bank_at none banks b).live ≡ true → b < length banks
  row_within none banks b h = elim (cases_lt b (length banks)) [
    | inl l ↦ l
    | inr l ↦ absurd (false≢true (sym (ap (λ (r : Bank A). r.live) (get_or_past banks b (free_bank none) l)) ∙ h))
  ]

  -- a change of what is used leaves the rest of each row
  module _ (q : Answers A) (f : A → A) (on : List ℕ) (banks : List (Bank A)) where
    pub length_changed : length (change_uses q f on banks) ≡ length banks
    length_changed = length-each_at (change_use q f on) 0 banks

    pub seen_changed : (b : ℕ) → seen (bank_at q.empty (change_uses q f on banks) b) ≡ seen (bank_at q.empty banks b)
    seen_changed b = elim (cases_lt b (length banks)) [
      | inl l ↦ ap seen (getD_each_at (change_use q f on) banks b (free_bank q.empty) l) ∙ go (among b on) (bank_at q.empty banks b)
      | inr l ↦ ap seen (get_or_past (change_uses q f on banks) b (free_bank q.empty) (rw length_changed l) ∙ sym (get_or_past banks b (free_bank q.empty) l))
    ]
      where
        go : (t : Bool) (row : Bank A) → seen (cond t (record { live = row.live; parent = row.parent; limit = row.limit; used = f row.used }) row) ≡ seen row
        go true row = refl
        go false row = refl

    pub used_changed : (b : ℕ) → b < length banks → (bank_at q.empty (change_uses q f on banks) b).used ≡ cond (among b on) (f (bank_at q.empty banks b).used) (bank_at q.empty banks b).used
    used_changed b l = ap used_of (getD_each_at (change_use q f on) banks b (free_bank q.empty) l) ∙ go (among b on) (bank_at q.empty banks b)
      where
        go : (t : Bool) (row : Bank A) → (cond {A = Bank A} t (record { live = row.live; parent = row.parent; limit = row.limit; used = f row.used }) row).used ≡ cond t (f row.used) row.used
        go true row = refl
        go false row = refl

  -- rows that are freed
  module _ (q : Answers A) (test : ℕ → Bool) (banks : List (Bank A)) where
    abbrev none : A
    none = q.empty

    pub seen_freed : (b : ℕ) → seen (bank_at none (each_at (freed_bank q test) 0 banks) b) ≡ cond (test b) None (seen (bank_at none banks b))
    seen_freed b = elim (cases_lt b (length banks)) [
      | inl l ↦ ap seen (getD_each_at (freed_bank q test) banks b (free_bank none) l) ∙ go (bank_at none banks b) (bank_at none banks b).live refl (test b)
      | inr l ↦ ap seen (get_or_past (each_at (freed_bank q test) 0 banks) b (free_bank none) (rw (length-each_at (freed_bank q test) 0 banks) l))
          ∙ go (free_bank none) false refl (test b)
          ∙ ap (λ (r : Bank A). cond (test b) None (seen r)) (sym (get_or_past banks b (free_bank none) l))
    ]
      where
        go : (row : Bank A) (l : Bool) → row.live ≡ l → (t : Bool) → seen (cond (row.live && t) (free_bank none) row) ≡ cond t None (seen row)
        go row true h true = rw h refl
        go row true h false = rw h refl
        go row false h true = rw h refl
        go row false h false = rw h refl

    pub row_kept : (b : ℕ) → b < length banks → test b ≡ false → bank_at none (each_at (freed_bank q test) 0 banks) b ≡ bank_at none banks b
    row_kept b l h = getD_each_at (freed_bank q test) banks b (free_bank none) l ∙ rw h (go (bank_at none banks b).live (bank_at none banks b))
      where
        go : (t : Bool) (row : Bank A) → cond (t && false) (free_bank none) row ≡ row
        go true row = refl
        go false row = refl
