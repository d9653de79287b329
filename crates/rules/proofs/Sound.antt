-- When what a list of calls shows and the tables of a ledger fit one another. Assumes nothing.
use Rattle.std.proofs.Common.{◌≡◌, ℕ, ◌≤◌, Bool, true, false, List, [], ◌∷◌, length, Some, sym, refl, ◌∙◌, subst}
use Rattle.kind.specs.Algebra.{Answers, Part}
use Rattle.tables.specs.declared.rows.Grant.{Grant}
use Rattle.tables.specs.Tables.{State, is_none, chain}
use Rattle.rules.specs.Record.{Opened, Outstanding, Shown, line, held_in, amounts}
use Rattle.rules.specs.Law.{Joins}
use Rattle.rules.proofs.Views.{bank-row, grant_row, chain_of_lem, lost_in, serial_of}
use Rattle.rules.proofs.Kept.{In}
use Rattle.rules.proofs.Serials.{Climbing}
use Rattle.rules.proofs.Roads.{Road, Open}
use Rattle.rules.proofs.RowFacts.{seen, seen_open, Seen, seen_live, seen_free, road_chain}
use Rattle.rules.proofs.Within.{Ways, line_way}

abbrev pub row_of : {A : Type 0} → Outstanding A → Grant A
row_of g = record { live = true; bank = g.bank; serial = g.serial; amount = g.amount }

module _ {A : Type 0} (makes : A → A → A → Type 0) (q : Answers A) where
  pub record Sound (e : A) (v : Shown A) (s : State A) : Type 0 where
    pub banks_low : 1 ≤ length s.banks
    pub banks_high : length s.banks ≤ 64
    pub grants_low : 1 ≤ length s.grants
    pub grants_high : length s.grants ≤ 1024
    pub same : (b : ℕ) → v.bank b ≡ seen (bank-row q s b)
    pub root : v.bank 0 ≡ Some (record { parent = 0; limit = e })
    pub ways : Ways v
    pub granted : (g : Outstanding A) → In g v.out → grant_row q s g.row ≡ row_of g
    pub housed : (g : Outstanding A) → In g v.out → Open v.bank g.bank
    pub listed : (r : ℕ) → (grant_row q s r).live ≡ true → (g : Outstanding A) × In g v.out × (g.row ≡ r)
    pub climbs : Climbing serial_of v.out
    pub issued : (g : Outstanding A) → In g v.out → g.serial ≤ s.last
    pub uses : (b : ℕ) → Open v.bank b → Joins makes q (amounts (held_in v b)) (bank-row q s b).used
    pub limits : (b : ℕ) (o : Opened A) → v.bank b ≡ Some o → Part makes (bank-row q s b).used o.limit

module _ {A : Type 0} {makes : A → A → A → Type 0} {q : Answers A} {e : A} {v : Shown A} {s : State A} (sound : Sound makes q e v s) where
  pub live_open : (b : ℕ) → (bank-row q s b).live ≡ true → Open v.bank b
  live_open b h = (record { parent = (bank-row q s b).parent; limit = (bank-row q s b).limit }, sound.same b ∙ seen_live (bank-row q s b) h)

  pub open_seen : (b : ℕ) (o : Opened A) → v.bank b ≡ Some o → Seen (bank-row q s b) o
  open_seen b o h = seen_open (bank-row q s b) o (sym (sound.same b) ∙ h)

  pub root_open : Open v.bank 0
  root_open = (record { parent = 0; limit = e }, sound.root)

  pub chain-line : (b : ℕ) → chain_of_lem q s b ≡ line v b
  unfolding chain
  chain-line b = go (bank-row q s b).live refl
    where
      go : (t : Bool) → (bank-row q s b).live ≡ t → chain_of_lem q s b ≡ line v b
      go true h = (let w = sound.ways b (live_open b h) in
          road_chain q.empty s.banks v.bank sound.same 16 b w.0 w.1 w.2 ∙ sym (line_way v b w))
      go false h = rw h (rw (sound.same b ∙ seen_free (bank-row q s b) h) refl)

  pub not-lost : (b : ℕ) → Open v.bank b → lost_in q s b ≡ false
  unfolding chain
  not-lost b o =
      let w = sound.ways b o in
      subst (λ (ns : List ℕ). is_none ns ≡ false) (sym (road_chain q.empty s.banks v.bank sound.same 16 b w.0 w.1 w.2)) (some_way w.0 w.1)
    where
      some_way : (xs : List ℕ) → Road v.bank b xs → is_none xs ≡ false
      some_way [] r = absurd r
      some_way (x ∷ xs) r = refl
