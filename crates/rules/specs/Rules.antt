-- What each call answers, what it puts in the caller's place, and what it leaves. Assumes nothing.
use Rattle.std.specs.Prelude.{ℕ, ◌+◌, Bool, true, false, not, ◌&&◌, List, [], ◌∷◌, map, length, replicate, Some, None, Ok, Err, Option, Result, ◌==◌, nat_eq, nat_le, slice_set}
use Rattle.kind.specs.Algebra.{Answers}
use Rattle.tables.specs.Tables.{State, free_bank, free_grant, bank_at, grant_at, chain, lost, under}
use Rattle.tables.specs.declared.refusal.Refusal.{Refusal}
use Rattle.tables.specs.declared.refusal.Refusal.TheVariants.{TableLength, NoSuchBank, NoSuchGrant, EmptyAmount, BankFree, RowLive, ChainFull, OverLimit, NotThisGrant, RootBank, SerialsSpent, OutOfOrder}
use Rattle.tables.specs.declared.refusal.Table.TheVariants.{Banks, Grants}
use Rattle.tables.specs.Rows.{each_at, how_many, nearest, above, held, change_uses, over, short_of, lost_bank, lost_grant, freed_bank, freed_grant, handed_bank, handed_grant}

-- a call that a list may have
pub data Call (A : Type 0) : Type 0 where
  open_bank : ℕ → ℕ → A → Call A
  buy : ℕ → ℕ → A → Call A
  give_back : ℕ → ℕ → Call A
  reclaim : ℕ → Call A
  hand_up : ℕ → Call A
  stock : Call A

-- what a call came to: its answer, what it put in the caller's place if anything, and the ledger after it
pub record Outcome (A : Type 0) : Type 0 where
  pub answer : Result ℕ Refusal
  pub placed : Option A
  pub after : State A

-- of refusals in the order of their checks, the first that is due
abbrev pub first : List (Option Refusal) → Option Refusal
first [] = None
first (Some r ∷ rs) = Some r
first (None ∷ rs) = first rs

abbrev pub refuse_if : Bool → Refusal → Option Refusal
refuse_if true r = Some r
refuse_if false r = None

-- a refusal that names the bank or row found, if one was found
abbrev pub refuse_at : Option ℕ → (ℕ → Refusal) → Option Refusal
refuse_at None f = None
refuse_at (Some n) f = Some (f n)

module _ {A : Type 0} (q : Answers A) where
  abbrev empty : A
  empty = q.empty

  -- tables have 1 to 64 banks and 1 to 1,024 grants
  abbrev pub misfit : State A → Option Refusal
  misfit s = first (
      refuse_if (not (nat_le 1 (length s.banks) && nat_le (length s.banks) 64)) (TableLength Banks) ∷
      refuse_if (not (nat_le 1 (length s.grants) && nat_le (length s.grants) 1024)) (TableLength Grants) ∷ [])

  abbrev pub live_bank : State A → ℕ → Bool
  live_bank s b = (bank_at empty s.banks b).live

  abbrev pub live_grant : State A → ℕ → Bool
  live_grant s r = (grant_at empty s.grants r).live

  -- a refused call leaves all as it was
  abbrev pub refused : Refusal → State A → Outcome A
  refused r s = record { answer = Err r; placed = None; after = s }

  abbrev pub unless : Option Refusal → State A → Outcome A → Outcome A
  unless None s o = o
  unless (Some r) s o = refused r s

  -- ---- open bank c under bank p
  abbrev pub open_refusal : State A → ℕ → ℕ → Option Refusal
  open_refusal s p c = first (
      misfit s ∷
      refuse_if (nat_le (length s.banks) p) (NoSuchBank p) ∷
      refuse_if (nat_le (length s.banks) c) (NoSuchBank c) ∷
      refuse_if (not (live_bank s p)) (BankFree p) ∷
      refuse_if (lost empty s.banks p) (OutOfOrder p) ∷
      refuse_if (nat_le 16 (length (chain empty s.banks p))) (ChainFull p) ∷
      refuse_if (live_bank s c) (RowLive c) ∷ [])

  abbrev pub opens : State A → ℕ → ℕ → A → Outcome A
  opens s p c limit = unless (open_refusal s p c) s (record {
    answer = Ok 0;
    placed = None;
    after = record { last = s.last; banks = slice_set s.banks c (record { live = true; parent = p; limit = limit; used = empty }); grants = s.grants };
  })

  -- ---- buy an amount from bank b into grant row r
  abbrev pub buy_refusal : State A → ℕ → ℕ → A → Option Refusal
  buy_refusal s b r a = first (
      misfit s ∷
      refuse_if (nat_le (length s.banks) b) (NoSuchBank b) ∷
      refuse_if (nat_le (length s.grants) r) (NoSuchGrant r) ∷
      refuse_if (q.is_empty a) (EmptyAmount b) ∷
      refuse_if (not (live_bank s b)) (BankFree b) ∷
      refuse_if (live_grant s r) (RowLive r) ∷
      refuse_if (nat_le 4000000000 s.last) SerialsSpent ∷
      refuse_if (lost empty s.banks b) (OutOfOrder b) ∷
      refuse_at (nearest (over q s.banks a) (chain empty s.banks b)) OverLimit ∷ [])

  abbrev pub buys : State A → ℕ → ℕ → A → Outcome A
  buys s b r a = unless (buy_refusal s b r a) s (record {
    answer = Ok (s.last + 1);
    placed = None;
    after = record {
      last = s.last + 1;
      banks = change_uses q (λ u. q.join u a) (chain empty s.banks b) s.banks;
      grants = slice_set s.grants r (record { live = true; bank = b; serial = s.last + 1; amount = a });
    };
  })

  -- ---- give back the grant of row r and serial n
  abbrev pub back_refusal : State A → ℕ → ℕ → Option Refusal
  back_refusal s r n =
      let g = grant_at empty s.grants r in
      first (
      misfit s ∷
      refuse_if (nat_le (length s.grants) r) (NoSuchGrant r) ∷
      refuse_if (not (g.live && g.serial == n)) (NotThisGrant r) ∷
      refuse_if (lost empty s.banks g.bank) (OutOfOrder g.bank) ∷
      refuse_at (nearest (short_of q s.banks g.amount) (chain empty s.banks g.bank)) OutOfOrder ∷ [])

  abbrev pub backs : State A → ℕ → ℕ → Outcome A
  backs s r n =
      let g = grant_at empty s.grants r in
      unless (back_refusal s r n) s (record {
        answer = Ok 0;
        placed = None;
        after = record {
          last = s.last;
          banks = change_uses q (λ u. q.remainder u g.amount) (chain empty s.banks g.bank) s.banks;
          grants = slice_set s.grants r (free_grant empty);
        };
      })

  -- the refusal that names the bank of grant row r
  abbrev pub bank_of : State A → ℕ → Refusal
  bank_of s r = OutOfOrder (grant_at empty s.grants r).bank

  -- what reclaim and hand up of bank d refuse alike
  abbrev pub closing_refusal : State A → ℕ → Option Refusal
  closing_refusal s d = first (
      misfit s ∷
      refuse_if (nat_le (length s.banks) d) (NoSuchBank d) ∷
      refuse_if (d == 0) RootBank ∷
      refuse_if (not (live_bank s d)) (BankFree d) ∷
      refuse_at (lost_bank q s.banks) OutOfOrder ∷
      refuse_at (lost_grant q s.banks s.grants) (bank_of s) ∷ [])

  -- ---- reclaim bank d
  abbrev pub reclaim_refusal : State A → ℕ → Option Refusal
  reclaim_refusal s d = first (
      closing_refusal s d ∷
      refuse_at (nearest (short_of q s.banks (bank_at empty s.banks d).used) (above (chain empty s.banks d))) OutOfOrder ∷ [])

  abbrev pub reclaims : State A → ℕ → Outcome A
  reclaims s d =
      let got = (bank_at empty s.banks d).used in
      let gone = under empty s.banks d in
      unless (reclaim_refusal s d) s (record {
        answer = Ok (how_many (held gone) s.grants);
        placed = Some got;
        after = record {
          last = s.last;
          banks = each_at (freed_bank q gone) 0 (change_uses q (λ u. q.remainder u got) (above (chain empty s.banks d)) s.banks);
          grants = map (freed_grant q gone) s.grants;
        };
      })

  -- ---- hand up bank d
  abbrev pub hands_up : State A → ℕ → Outcome A
  hands_up s d =
      let p = (bank_at empty s.banks d).parent in
      unless (closing_refusal s d) s (record {
        answer = Ok (how_many (held (nat_eq d)) s.grants);
        placed = None;
        after = record {
          last = s.last;
          banks = each_at (handed_bank q d p) 0 s.banks;
          grants = map (handed_grant q d p) s.grants;
        };
      })

  -- ---- ask for the stock
  abbrev pub stock_refusal : State A → Option Refusal
  stock_refusal s =
      let root = bank_at empty s.banks 0 in
      first (misfit s ∷ refuse_if (not (root.live && q.holds root.limit root.used)) (OutOfOrder 0) ∷ [])

  abbrev pub stocks : State A → Outcome A
  stocks s =
      let root = bank_at empty s.banks 0 in
      unless (stock_refusal s) s (record { answer = Ok 0; placed = Some (q.remainder root.limit root.used); after = s })

  -- what a call comes to
  abbrev pub ask : Call A → State A → Outcome A
  ask (open_bank p c limit) s = opens s p c limit
  ask (buy b r a) s = buys s b r a
  ask (give_back r n) s = backs s r n
  ask (reclaim d) s = reclaims s d
  ask (hand_up d) s = hands_up s d
  ask stock s = stocks s

  -- ---- set up with the endowment e
  abbrev pub fresh : A → ℕ → ℕ → State A
  fresh e banks grants = record {
    last = 0;
    banks = slice_set (replicate banks (free_bank empty)) 0 (record { live = true; parent = 0; limit = e; used = empty });
    grants = replicate grants (free_grant empty);
  }

  abbrev pub sets_up : A → State A → Outcome A
  sets_up e s = unless (misfit s) s (record { answer = Ok 0; placed = None; after = fresh e (length s.banks) (length s.grants) })
