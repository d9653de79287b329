-- The number and the place of each refusal of a call.
use Rattle.std.specs.Prelude.{ℕ}
use Rattle.kind.specs.Refusals.{Report}
use Rattle.tables.specs.declared.refusal.Refusal.{Refusal}
use Rattle.tables.specs.declared.refusal.Refusal.TheVariants.{TableLength, NoSuchBank, NoSuchGrant, EmptyAmount, BankFree, RowLive, ChainFull, OverLimit, NotThisGrant, RootBank, SerialsSpent, OutOfOrder}
use Rattle.tables.specs.declared.refusal.Table.TheVariants.{Banks, Grants}

abbrev at : ℕ → ℕ → Report
at number place = record { number = number; place = place }

abbrev pub refusal_report : Refusal → Report
refusal_report (TableLength Banks) = at 4 0
refusal_report (TableLength Grants) = at 4 1
refusal_report (NoSuchBank b) = at 5 b
refusal_report (NoSuchGrant r) = at 6 r
refusal_report (EmptyAmount b) = at 7 b
refusal_report (BankFree b) = at 12 b
refusal_report (RowLive r) = at 13 r
refusal_report (ChainFull b) = at 14 b
refusal_report (OverLimit b) = at 15 b
refusal_report (NotThisGrant r) = at 16 r
refusal_report RootBank = at 17 0
refusal_report SerialsSpent = at 18 0
refusal_report (OutOfOrder b) = at 19 b
