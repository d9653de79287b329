-- The tables of a ledger, and the chains of banks in them. Assumes nothing.
use Rattle.std.specs.Prelude.{ℕ, zero, suc, Bool, true, false, cond, ◌||◌, List, [], ◌∷◌, ◌==◌, slice_index_or}
use Rattle.tables.specs.declared.rows.Bank.{Bank}
use Rattle.tables.specs.declared.rows.Grant.{Grant}

-- a ledger: the last serial issued, and the two tables
pub record State (A : Type 0) : Type 0 where
  pub last : ℕ
  pub banks : List (Bank A)
  pub grants : List (Grant A)

-- is n among the numbers?
abbrev pub among : ℕ → List ℕ → Bool
among n [] = false
among n (x ∷ xs) = n == x || among n xs

-- is there no number?
abbrev pub is_none : List ℕ → Bool
is_none [] = true
is_none (x ∷ xs) = false

-- b in front of the chain of its parent, where that is whole
abbrev pub under_it : ℕ → List ℕ → List ℕ
under_it b [] = []
under_it b (x ∷ xs) = b ∷ (x ∷ xs)

module _ {A : Type 0} (empty : A) where
  -- a row as a call frees it: its numbers are 0 and its amounts empty
  abbrev pub free_bank : Bank A
  free_bank = record { live = false; parent = 0; limit = empty; used = empty }

  abbrev pub free_grant : Grant A
  free_grant = record { live = false; bank = 0; serial = 0; amount = empty }

  -- a row by its number; past the table, a free one
  abbrev pub bank_at : List (Bank A) → ℕ → Bank A
  bank_at banks b = slice_index_or banks b free_bank

  abbrev pub grant_at : List (Grant A) → ℕ → Grant A
  grant_at grants r = slice_index_or grants r free_grant

  -- the chain of a row: that row, its parent and so on up to row 0; empty unless it is whole, that is,
  -- unless every row of it is in the table and live and it has at most n rows
  abbrev pub chain_in : ℕ → List (Bank A) → ℕ → List ℕ
  chain_in zero banks b = []
  chain_in (suc n) banks b =
      let above = chain_in n banks (bank_at banks b).parent in
      cond (bank_at banks b).live (cond (b == 0) (0 ∷ []) (under_it b above)) []

  -- a whole chain has at most 16 rows
  unfoldable pub chain : List (Bank A) → ℕ → List ℕ
  chain banks b = chain_in 16 banks b

  -- a bank number is lost if it is outside the table, free or without a whole chain
  abbrev pub lost : List (Bank A) → ℕ → Bool
  lost banks b = is_none (chain banks b)

  -- bank b stands under d if d is on the chain of b
  abbrev pub under : List (Bank A) → ℕ → ℕ → Bool
  under banks d b = among d (chain banks b)
