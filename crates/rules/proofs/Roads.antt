-- The way from a bank up to bank 0. Assumes nothing.
use Rattle.std.proofs.Common.{◌≡◌, ℕ, zero, suc, ◌≤◌, ◌⊎◌, List, [], ◌∷◌, length, Some, Option, sym, refl, ap, ◌∙◌, subst, ap₂, inl, inr, arith}
use Rattle.std.proofs.lemmas.Bool.{eq-eqb, ne_eqb}
use Rattle.rules.specs.Record.{Opened, line_in}
use Rattle.rules.proofs.Kept.{In}

module _ {A : Type 0} (bank : ℕ → Option (Opened A)) where
  -- xs leads from b to 0, each bank open and the parent of the one before it
  abbrev pub Road : ℕ → List ℕ → Type 0
  Road b [] = ⊥
  Road b (x ∷ []) = (o : Opened A) × (x ≡ b) × (bank b ≡ Some o) × (b ≡ 0)
  Road b (x ∷ y ∷ ys) = (o : Opened A) × (x ≡ b) × (bank b ≡ Some o) × (b ≡ 0 → ⊥) × Road o.parent (y ∷ ys)

  abbrev pub Open : ℕ → Type 0
  Open b = (o : Opened A) × (bank b ≡ Some o)

  pub road_here : (b : ℕ) (xs : List ℕ) → Road b xs → In b xs
  road_here b [] r = r
  road_here b (x ∷ []) r = inl (sym r.1)
  road_here b (x ∷ y ∷ ys) r = inl (sym r.1)

  pub road_root : (b : ℕ) (xs : List ℕ) → Road b xs → In 0 xs
  road_root b [] r = r
  road_root b (x ∷ []) r = inl (sym r.3 ∙ sym r.1)
  road_root b (x ∷ y ∷ ys) r = inr (road_root r.0.parent (y ∷ ys) r.4)

  pub road_open : (b : ℕ) (xs : List ℕ) (d : ℕ) → Road b xs → In d xs → Open d
  road_open b [] d r i = absurd i
  road_open b (x ∷ []) d r (inl e) = (r.0, ap bank (e ∙ r.1) ∙ r.2)
  road_open b (x ∷ []) d r (inr i) = absurd i
  road_open b (x ∷ y ∷ ys) d r (inl e) = (r.0, ap bank (e ∙ r.1) ∙ r.2)
  road_open b (x ∷ y ∷ ys) d r (inr i) = road_open r.0.parent (y ∷ ys) d r.4 i

  pub road_same : (b : ℕ) (xs ys : List ℕ) → Road b xs → Road b ys → xs ≡ ys
  road_same b [] ys r s = absurd r
  road_same b (x ∷ []) [] r s = absurd s
  road_same b (x ∷ []) (y ∷ []) r s = ap {B = List ℕ} (λ z. z ∷ []) (r.1 ∙ sym s.1)
  road_same b (x ∷ []) (y ∷ z ∷ zs) r s = absurd (s.3 r.3)
  road_same b (x ∷ w ∷ ws) [] r s = absurd s
  road_same b (x ∷ w ∷ ws) (y ∷ []) r s = absurd (r.3 s.3)
  road_same b (x ∷ w ∷ ws) (y ∷ z ∷ zs) r s =
      let o = r.0 in
      let o' = s.0 in
      let a = r.2 in
      let a' = s.2 in
      let e : o' ≡ o = cc in
      ap₂ {C = List ℕ} (λ n ns. n ∷ ns) (r.1 ∙ sym s.1) (road_same r.0.parent (w ∷ ws) (z ∷ zs) r.4 (subst (λ t. Road t.parent (z ∷ zs)) e s.4))

  -- a bank on the way has the rest of the way for its own
  pub road_from : (b : ℕ) (xs : List ℕ) (d : ℕ) → Road b xs → In d xs → (ds : List ℕ) × Road d ds × ((e : ℕ) → In e ds → In e xs) × (length ds ≤ length xs)
  road_from b [] d r i = absurd i
  road_from b (x ∷ []) d r (inl e) = (x ∷ [], subst (λ n. Road n (x ∷ [])) (sym (e ∙ r.1)) r, λ e i. i, omega arith)
  road_from b (x ∷ []) d r (inr i) = absurd i
  road_from b (x ∷ y ∷ ys) d r (inl e) = (x ∷ y ∷ ys, subst (λ n. Road n (x ∷ y ∷ ys)) (sym (e ∙ r.1)) r, λ e i. i, omega arith)
  road_from b (x ∷ y ∷ ys) d r (inr i) =
      let k = road_from r.0.parent (y ∷ ys) d r.4 i in
      let l : length k.0 ≤ suc (length ys) = k.3 in
      (k.0, k.1, λ e j. inr (k.2 e j), omega arith)

  -- of two banks on one way, one is on the other's
  pub road_order : (b : ℕ) (xs : List ℕ) (d e : ℕ) (ds es : List ℕ) → Road b xs → In d xs → In e xs → Road d ds → Road e es → In d es ⊎ In e ds
  road_order b [] d e ds es r i j s t = absurd r
  road_order b (x ∷ []) d e ds es r (inl i) (inl j) s t = inl (subst (λ n. In n es) (j ∙ sym i) (road_here e es t))
  road_order b (x ∷ []) d e ds es r (inl i) (inr j) s t = absurd j
  road_order b (x ∷ []) d e ds es r (inr i) j s t = absurd i
  road_order b (x ∷ y ∷ ys) d e ds es r (inl i) j s t =
      inr (subst (λ ns. In e ns) (road_same d (x ∷ y ∷ ys) ds (subst (λ n. Road n (x ∷ y ∷ ys)) (sym (i ∙ r.1)) r) s) j)
  road_order b (x ∷ y ∷ ys) d e ds es r (inr i) (inl j) s t =
      inl (subst (λ ns. In d ns) (road_same e (x ∷ y ∷ ys) es (subst (λ n. Road n (x ∷ y ∷ ys)) (sym (j ∙ r.1)) r) t) (inr i))
  road_order b (x ∷ y ∷ ys) d e ds es r (inr i) (inr j) s t = road_order r.0.parent (y ∷ ys) d e ds es r.4 i j s t

  -- the way is what the list of calls shows
  pub road_line : (n b : ℕ) (xs : List ℕ) → Road b xs → length xs ≤ n → line_in n bank b ≡ xs
  road_line n b [] r l = absurd r
  road_line zero b (x ∷ []) r l = absurd (omega arith)
  road_line zero b (x ∷ y ∷ ys) r l = absurd (omega arith)
  road_line (suc n) b (x ∷ []) r l = rw r.2 (rw (eq-eqb b 0 r.3) (ap {B = List ℕ} (λ z. z ∷ []) (sym (r.1 ∙ r.3))))
  road_line (suc n) b (x ∷ y ∷ ys) r l =
      rw r.2 (rw (ne_eqb b 0 r.3) (ap₂ {C = List ℕ} (λ z zs. z ∷ zs) (sym r.1) (road_line n r.0.parent (y ∷ ys) r.4 (omega arith))))

-- a way stays where what is shown of the banks on it stays
pub road_stays : {A : Type 0} (bank bank' : ℕ → Option (Opened A)) (b : ℕ) (xs : List ℕ) → Road bank b xs → ((d : ℕ) → In d xs → bank' d ≡ bank d) → Road bank' b xs
road_stays bank bank' b [] r h = r
road_stays bank bank' b (x ∷ []) r h = (r.0, r.1, h b (inl (sym r.1)) ∙ r.2, r.3)
road_stays bank bank' b (x ∷ y ∷ ys) r h = (r.0, r.1, h b (inl (sym r.1)) ∙ r.2, r.3, road_stays bank bank' r.0.parent (y ∷ ys) r.4 (λ d i. h d (inr i)))

pub road_cons : {A : Type 0} (bank : ℕ → Option (Opened A)) (b : ℕ) (o : Opened A) (xs : List ℕ) → bank b ≡ Some o → (b ≡ 0 → ⊥) → Road bank o.parent xs → Road bank b (b ∷ xs)
road_cons bank b o [] h n r = absurd r
road_cons bank b o (x ∷ xs) h n r = (o, refl, h, n, r)

pub road_at_root : {A : Type 0} (bank : ℕ → Option (Opened A)) (xs : List ℕ) (d : ℕ) → Road bank 0 xs → In d xs → d ≡ 0
road_at_root bank [] d r i = absurd i
road_at_root bank (x ∷ []) d r (inl e) = e ∙ r.1
road_at_root bank (x ∷ []) d r (inr i) = absurd i
road_at_root bank (x ∷ y ∷ ys) d r i = absurd (r.3 refl)
