-- What is asked of rows, and what becomes of them. Assumes nothing.
use Rattle.std.specs.Prelude.{ℕ, suc, Bool, cond, not, ◌&&◌, List, [], ◌∷◌, Some, None, Option, ◌==◌, nat_eq}
use Rattle.kind.specs.Algebra.{Answers}
use Rattle.tables.specs.Tables.{among, free_bank, free_grant, bank_at, lost}
use Rattle.tables.specs.declared.rows.Bank.{Bank}
use Rattle.tables.specs.declared.rows.Grant.{Grant}

-- f of each row, told its number, from i on
abbrev pub each_at : {X Y : Type 0} → (ℕ → X → Y) → ℕ → List X → List Y
each_at f i [] = []
each_at f i (x ∷ xs) = f i x ∷ each_at f (suc i) xs

-- the lowest row from i on that passes the test
abbrev pub lowest : {X : Type 0} → (ℕ → X → Bool) → ℕ → List X → Option ℕ
lowest f i [] = None
lowest f i (x ∷ xs) = cond (f i x) (Some i) (lowest f (suc i) xs)

-- how many rows pass the test
abbrev pub how_many : {X : Type 0} → (X → Bool) → List X → ℕ
how_many f [] = 0
how_many f (x ∷ xs) = cond (f x) (suc (how_many f xs)) (how_many f xs)

-- the first of the numbers that passes the test: on a chain, the bank nearest the buyer
abbrev pub nearest : (ℕ → Bool) → List ℕ → Option ℕ
nearest f [] = None
nearest f (x ∷ xs) = cond (f x) (Some x) (nearest f xs)

-- the rows of a chain above the first
abbrev pub above : List ℕ → List ℕ
above [] = []
above (d ∷ ds) = ds

-- is the grant live, in a bank that passes the test?
abbrev pub held : {A : Type 0} → (ℕ → Bool) → Grant A → Bool
held in-bank g = g.live && in-bank g.bank

-- a grant, passed to bank p
abbrev pub moved : {A : Type 0} → ℕ → Grant A → Grant A
moved p g = record { live = g.live; bank = p; serial = g.serial; amount = g.amount }

module _ {A : Type 0} (q : Answers A) where
  -- a row whose use is changed by f, if its number is on the list
  abbrev pub change_use : (A → A) → List ℕ → ℕ → Bank A → Bank A
  change_use f on i row = cond (among i on) (record { live = row.live; parent = row.parent; limit = row.limit; used = f row.used }) row

  abbrev pub change_uses : (A → A) → List ℕ → List (Bank A) → List (Bank A)
  change_uses f on banks = each_at (change_use f on) 0 banks

  -- does the amount not fit the use, or does the limit not hold their join?
  abbrev pub row_over : A → Bank A → Bool
  row_over a row = not (q.fits row.used a && q.holds row.limit (q.join row.used a))

  abbrev pub over : List (Bank A) → A → ℕ → Bool
  over banks a b = row_over a (bank_at q.empty banks b)

  -- does the use not hold the amount?
  abbrev pub row_short : A → Bank A → Bool
  row_short a row = not (q.holds row.used a)

  abbrev pub short_of : List (Bank A) → A → ℕ → Bool
  short_of banks a b = row_short a (bank_at q.empty banks b)

  -- is a live row's bank lost?
  abbrev pub bank_lost : List (Bank A) → ℕ → Bank A → Bool
  bank_lost banks i row = row.live && lost q.empty banks i

  abbrev pub grant_lost : List (Bank A) → ℕ → Grant A → Bool
  grant_lost banks i row = row.live && lost q.empty banks row.bank

  abbrev pub lost_bank : List (Bank A) → Option ℕ
  lost_bank banks = lowest (bank_lost banks) 0 banks

  abbrev pub lost_grant : List (Bank A) → List (Grant A) → Option ℕ
  lost_grant banks grants = lowest (grant_lost banks) 0 grants

  -- a live row becomes free if its bank is gone
  abbrev pub freed_bank : (ℕ → Bool) → ℕ → Bank A → Bank A
  freed_bank gone i row = cond (row.live && gone i) (free_bank q.empty) row

  abbrev pub freed_grant : (ℕ → Bool) → Grant A → Grant A
  freed_grant gone g = cond (held gone g) (free_grant q.empty) g

  -- row d becomes free, and live rows other than row 0 whose parent is d get the parent p
  abbrev pub handed_bank : ℕ → ℕ → ℕ → Bank A → Bank A
  handed_bank d p i row =
      cond (i == d) (free_bank q.empty)
      (cond (row.live && (not (i == 0) && row.parent == d)) (record { live = row.live; parent = p; limit = row.limit; used = row.used }) row)

  abbrev pub handed_grant : ℕ → ℕ → Grant A → Grant A
  handed_grant d p g = cond (held (nat_eq d) g) (moved p g) g
