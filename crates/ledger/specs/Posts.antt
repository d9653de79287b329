-- How a call's contract reads off the rule of the call. Assumes nothing.
use Rattle.std.specs.Prelude.{◌≡◌, ◌≢◌, ℕ, Bool, false, List, [], Option, Result, MatchOption, slice_index_or}
use Rattle.std.specs.Option.{unwrap_or}
use Rattle.lists.specs.Listed.{listed}
use Rattle.lists.specs.declared.list.FixedList.{FixedList}
use Rattle.ledger.specs.declared.ledger.Ledger.{Ledger}
use Rattle.ledger.specs.declared.ledger.View.{View}
use Rattle.tables.specs.declared.rows.Bank.{Bank}
use Rattle.tables.specs.declared.rows.Grant.{Grant}
use Rattle.tables.specs.declared.refusal.Refusal.{Refusal}
use Rattle.tables.specs.Tables.{State}
use Rattle.rules.specs.Rules.{Outcome}

-- the ledger that is lent, as the rules see it
abbrev pub lent : {A : Type 0} → Ledger A → State A
lent l = record { last = l.head.now.last_serial; banks = l.banks.now; grants = l.grants.now }

abbrev pub viewed : {A : Type 0} → View A → State A
viewed v = record { last = v.head.now.last_serial; banks = v.banks.now; grants = v.grants.now }

-- a ledger of which only the tables are looked at
abbrev pub in_tables : {A : Type 0} → List (Bank A) → List (Grant A) → State A
in_tables banks grants = record { last = 0; banks = banks; grants = grants }

-- what is lent stays the same head and the same two tables, whatever is written in them
pub record SameParts {A : Type 0} (before after : Ledger A) : Type 0 where
  pub head : after.head.ghost_name ≡ before.head.ghost_name
  pub banks : after.banks.ghost_name ≡ before.banks.ghost_name
  pub grants : after.grants.ghost_name ≡ before.grants.ghost_name

-- a call with the answer r that leaves the ledger as s came to what its rule says
pub record Meets {A : Type 0} (o : Outcome A) (r : Result ℕ Refusal) (s : State A) : Type 0 where
  pub answered : r ≡ o.answer
  pub left : s ≡ o.after

-- the caller's place, which held the amount `before`, holds what the rule puts there, if anything
pub record Places {A : Type 0} (o : Outcome A) (before place : A) : Type 0 where
  pub holds : place ≡ unwrap_or o.placed before

-- the rows of a chain, if it is whole: a chain that is not has no row
abbrev pub Climbed : List ℕ → Option (FixedList ℕ 16) → Type 0
Climbed rows r = MatchOption r (rows ≡ []) (λ c. (listed c ≡ rows) × (rows ≢ []))

-- is the row among those marked
abbrev pub marked : List Bool → ℕ → Bool
marked marks b = slice_index_or marks b false

-- the rows marked are those that pass the test
abbrev pub Marked : List Bool → (ℕ → Bool) → Type 0
Marked marks f = (b : ℕ) → marked marks b ≡ f b
