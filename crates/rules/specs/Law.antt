-- The law of lists: what holds after set-up, and after every step of any list of calls. Assumes nothing.
use Rattle.std.specs.Prelude.{◌≡◌, ℕ, ◌<◌, true, false, List, [], ◌∷◌, Some, Ok, Err, Option, Result, ◌≢◌}
use Rattle.kind.specs.Algebra.{Answers, Part}
use Rattle.kind.specs.Joins.{JoinsOn}
use Rattle.tables.specs.declared.refusal.Refusal.{Refusal}
use Rattle.tables.specs.declared.refusal.Refusal.TheVariants.{OutOfOrder}
use Rattle.tables.specs.Tables.{State, among}
use Rattle.rules.specs.Rules.{Call, open_bank, buy, give_back, reclaim, hand_up, stock, ask, stocks}
use Rattle.rules.specs.Record.{Opened, Shown, Entry, within, held_in, amounts, named, shown, issued, ended, serials}

-- each number stands in the list once
abbrev pub Distinct : List ℕ → Type 0
Distinct [] = Unit {0}
Distinct (x ∷ xs) = (among x xs ≡ false) × Distinct xs

-- each number is above the one before it
abbrev pub Rising : List ℕ → Type 0
Rising [] = Unit {0}
Rising (x ∷ []) = Unit {0}
Rising (x ∷ y ∷ ys) = (x < y) × Rising (y ∷ ys)

module _ {A : Type 0} (makes : A → A → A → Type 0) (q : Answers A) where
  -- the amounts join to w, each fitting the join of those before it; no amounts join to the empty one
  abbrev pub Joins : List A → A → Type 0
  Joins xs w = JoinsOn makes q.empty xs w

  -- a call as the list has it: with its answer and what it delivered
  abbrev pub entry : Call A → State A → Entry A
  entry c s = let o = ask q c s in record { call = c; answer = o.answer; placed = o.placed }

  -- where a list of calls leads, each going on from what the one before it left, and what the list reads as; the newest call stands first
  abbrev pub after : State A → List (Call A) → State A
  after s [] = s
  after s (c ∷ cs) = (ask q c (after s cs)).after

  abbrev pub written : State A → List (Call A) → List (Entry A)
  written s [] = []
  written s (c ∷ cs) = entry c (after s cs) ∷ written s cs

  -- a stock call made now is accepted; the outstanding grants join; what stock delivers and that join make the endowment
  pub record Balanced (e : A) (s : State A) (v : Shown A) : Type 0 where
    pub left : A
    pub out : A
    pub stocked : stocks q s ≡ record { answer = Ok 0; placed = Some left; after = s }
    pub joined : Joins (amounts v.out) out
    pub whole : makes left out e

  -- for each open bank, the outstanding grants in and beneath it join to a part of its limit and of every limit above it
  abbrev pub Bounded : Shown A → Type 0
  Bounded v = (b : ℕ) (o : Opened A) → v.bank b ≡ Some o →
      (j : A) × (Joins (amounts (held_in v b)) j × ((d : ℕ) (p : Opened A) → within v d b ≡ true → v.bank d ≡ Some p → Part makes j p.limit))

  -- a back that is accepted names a grant outstanding until then, and a reclaim that is accepted delivers the join of the grants
  -- outstanding in and beneath its bank just before
  abbrev pub Fair : Shown A → Call A → Result ℕ Refusal → Option A → Type 0
  Fair v (open_bank p c limit) x w = Unit {0}
  Fair v (buy b r a) x w = Unit {0}
  Fair v (give_back r n) (Ok m) w = named r n v.out ≡ true
  Fair v (give_back r n) (Err x) w = Unit {0}
  Fair v (reclaim d) (Ok m) w = (j : A) × ((w ≡ Some j) × Joins (amounts (held_in v d)) j)
  Fair v (reclaim d) (Err x) w = Unit {0}
  Fair v (hand_up d) x w = Unit {0}
  Fair v stock x w = Unit {0}

  -- so does every call of the list
  abbrev pub AllFair : A → List (Entry A) → Type 0
  AllFair e [] = Unit {0}
  AllFair e (x ∷ xs) = Fair (shown e xs) x.call x.answer x.placed × AllFair e xs

  -- no call of the list was refused as out of order
  abbrev pub Orderly : List (Entry A) → Type 0
  Orderly [] = Unit {0}
  Orderly (x ∷ xs) = ((n : ℕ) → x.answer ≢ Err (OutOfOrder n)) × Orderly xs

  -- a ledger was set up with the endowment e and left as start, and then the calls of the list were made
  pub record Books (e : A) (start : State A) (cs : List (Call A)) : Type 0 where
    pub balanced : Balanced e (after start cs) (shown e (written start cs))
    pub bounded : Bounded (shown e (written start cs))
    pub fair : AllFair e (written start cs)
    pub once_issued : Distinct (issued (written start cs))
    pub once_ended : Distinct (ended e (written start cs))
    pub orderly : Orderly (written start cs)
    pub in_order : Rising (serials (shown e (written start cs)).out)

  -- if set-up was accepted, the ledger that it left keeps its books through every list of calls
  abbrev pub KeepsBooks : A → Result ℕ Refusal → State A → Type 0
  KeepsBooks e (Ok n) start = (calls : List (Call A)) → Books e start calls
  KeepsBooks e (Err r) start = Unit {0}
