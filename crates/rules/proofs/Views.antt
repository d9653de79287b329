-- Short names for what the tables of a ledger read. Assumes nothing.
use Rattle.std.proofs.Common.{ℕ, Bool, List}
use Rattle.kind.specs.Algebra.{Answers}
use Rattle.tables.specs.declared.rows.Bank.{Bank}
use Rattle.tables.specs.declared.rows.Grant.{Grant}
use Rattle.rules.specs.Record.{Outstanding}
use Rattle.tables.specs.Tables.{State, bank_at, grant_at, chain, lost, under}

module _ {A : Type 0} where
  abbrev pub serial_of : Outstanding A → ℕ
  serial_of g = g.serial

  abbrev pub amount_of : Outstanding A → A
  amount_of g = g.amount

  abbrev pub used_of : Bank A → A
  used_of r = r.used

  abbrev pub live_of : Grant A → Bool
  live_of r = r.live

module _ {A : Type 0} (q : Answers A) (s : State A) where
  abbrev pub bank-row : ℕ → Bank A
  bank-row b = bank_at q.empty s.banks b

  abbrev pub grant_row : ℕ → Grant A
  grant_row r = grant_at q.empty s.grants r

  abbrev pub chain_of_lem : ℕ → List ℕ
  chain_of_lem b = chain q.empty s.banks b

  abbrev pub lost_in : ℕ → Bool
  lost_in b = lost q.empty s.banks b

  abbrev pub under_in : ℕ → ℕ → Bool
  under_in d b = under q.empty s.banks d b
