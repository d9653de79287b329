-- What a list of calls and answers shows: the open banks and the outstanding grants, read off the list and never off the tables. Assumes nothing.
use Rattle.std.specs.Prelude.{ℕ, zero, suc, Bool, false, cond, not, ◌&&◌, ◌||◌, List, [], ◌∷◌, ◌++◌, map, Some, None, Ok, Err, Option, Result, ◌==◌}
use Rattle.tables.specs.declared.refusal.Refusal.{Refusal}
use Rattle.tables.specs.Tables.{among}
use Rattle.rules.specs.Rules.{Call, open_bank, buy, give_back, reclaim, hand_up, stock}

-- an open bank
pub record Opened (A : Type 0) : Type 0 where
  pub parent : ℕ
  pub limit : A

-- an outstanding grant
pub record Outstanding (A : Type 0) : Type 0 where
  pub row : ℕ
  pub serial : ℕ
  pub bank : ℕ
  pub amount : A

-- the open banks by number, and the outstanding grants in order of serial
pub record Shown (A : Type 0) : Type 0 where
  pub bank : ℕ → Option (Opened A)
  pub out : List (Outstanding A)

-- one call of a list, its answer, and what it delivered
pub record Entry (A : Type 0) : Type 0 where
  pub call : Call A
  pub answer : Result ℕ Refusal
  pub placed : Option A

-- what passes the test
abbrev pub kept : {X : Type 0} → (X → Bool) → List X → List X
kept f [] = []
kept f (x ∷ xs) = cond (f x) (x ∷ kept f xs) (kept f xs)

-- a bank that passes from d to p, if it stands at d
abbrev pub passed_to : ℕ → ℕ → ℕ → ℕ
passed_to d p b = cond (b == d) p b

module _ {A : Type 0} where
  -- b in front of what is above it, if b is open
  abbrev pub up_from : ℕ → (ℕ → List ℕ) → Option (Opened A) → List ℕ
  up_from b above None = []
  up_from b above (Some o) = cond (b == 0) (0 ∷ []) (b ∷ above o.parent)

  -- a bank and those above it: its parent, that one's parent and so on up to bank 0. A ledger has at most 64 banks.
  abbrev pub line_in : ℕ → (ℕ → Option (Opened A)) → ℕ → List ℕ
  line_in zero bank b = []
  line_in (suc n) bank b = up_from b (λ p. line_in n bank p) (bank b)

  abbrev pub line : Shown A → ℕ → List ℕ
  line v b = line_in 64 v.bank b

  -- is bank b the bank d, or beneath it?
  abbrev pub within : Shown A → ℕ → ℕ → Bool
  within v d b = among d (line v b)

  -- the outstanding grants in and beneath bank d
  abbrev pub held_in : Shown A → ℕ → List (Outstanding A)
  held_in v d = kept (λ g. within v d g.bank) v.out

  -- is a grant of row r and serial n among them?
  abbrev pub named : ℕ → ℕ → List (Outstanding A) → Bool
  named r n [] = false
  named r n (g ∷ gs) = (g.row == r && g.serial == n) || named r n gs

  abbrev pub amounts : List (Outstanding A) → List A
  amounts = map (λ g. g.amount)

  -- at first bank 0 is open, with the endowment as its limit, and there is no grant
  abbrev pub begin : A → Shown A
  begin e = record { bank = λ b. cond (b == 0) (Some (record { parent = 0; limit = e })) None; out = [] }

  abbrev pub parent_of : Option (Opened A) → ℕ
  parent_of None = 0
  parent_of (Some o) = o.parent

  -- a bank whose parent was d gets the parent p
  abbrev pub adopted : ℕ → ℕ → Option (Opened A) → Option (Opened A)
  adopted d p None = None
  adopted d p (Some o) = Some (record { parent = passed_to d p o.parent; limit = o.limit })

  -- what an accepted call with result n does to what is shown
  abbrev pub accepted : Call A → ℕ → Shown A → Shown A
  accepted (open_bank p c limit) n v = record { bank = λ b. cond (b == c) (Some (record { parent = p; limit = limit })) (v.bank b); out = v.out }
  accepted (buy b r a) n v = record { bank = v.bank; out = v.out ++ (record { row = r; serial = n; bank = b; amount = a } ∷ []) }
  accepted (give_back r m) n v = record { bank = v.bank; out = kept (λ g. not (g.row == r && g.serial == m)) v.out }
  accepted (reclaim d) n v = record { bank = λ b. cond (within v d b) None (v.bank b); out = kept (λ g. not (within v d g.bank)) v.out }
  accepted (hand_up d) n v =
      let p = parent_of (v.bank d) in
      record {
        bank = λ b. cond (b == d) None (adopted d p (v.bank b));
        out = map (λ g. record { row = g.row; serial = g.serial; bank = passed_to d p g.bank; amount = g.amount }) v.out;
      }
  accepted stock n v = v

  -- only accepted calls alter what is shown
  abbrev pub noted : Call A → Result ℕ Refusal → Shown A → Shown A
  noted c (Ok n) v = accepted c n v
  noted c (Err r) v = v

  -- what a list shows; the newest call comes first
  abbrev pub shown : A → List (Entry A) → Shown A
  shown e [] = begin e
  shown e (x ∷ xs) = noted x.call x.answer (shown e xs)

  -- an accepted purchase issues the serial that is its result
  abbrev pub issues : Call A → Result ℕ Refusal → List ℕ
  issues (open_bank p c limit) r = []
  issues (buy b r a) (Ok n) = n ∷ []
  issues (buy b r a) (Err x) = []
  issues (give_back r n) x = []
  issues (reclaim d) x = []
  issues (hand_up d) x = []
  issues stock x = []

  abbrev pub serials : List (Outstanding A) → List ℕ
  serials = map (λ g. g.serial)

  -- an accepted back ends the serial that it names, and an accepted reclaim those of the grants that it strikes out
  abbrev pub ends : Shown A → Call A → Result ℕ Refusal → List ℕ
  ends v (open_bank p c limit) x = []
  ends v (buy b r a) x = []
  ends v (give_back r n) (Ok m) = n ∷ []
  ends v (give_back r n) (Err x) = []
  ends v (reclaim d) (Ok m) = serials (held_in v d)
  ends v (reclaim d) (Err x) = []
  ends v (hand_up d) x = []
  ends v stock x = []

  -- the serials that a list issued, and those that it ended
  abbrev pub issued : List (Entry A) → List ℕ
  issued [] = []
  issued (x ∷ xs) = issues x.call x.answer ++ issued xs

  abbrev pub ended : A → List (Entry A) → List ℕ
  ended e [] = []
  ended e (x ∷ xs) = ends (shown e xs) x.call x.answer ++ ended e xs
