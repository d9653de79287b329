-- The number and the place of each refusal of an amount.
use Rattle.std.specs.Prelude.{ℕ}
use Rattle.kind.specs.declared.refusal.AmountRefusal.{AmountRefusal}
use Rattle.kind.specs.declared.refusal.AmountRefusal.TheVariants.{CountTooLarge, BadRun}

-- how a refusal is reported
pub record Report : Type 0 where
  pub number : ℕ
  pub place : ℕ

abbrev pub amount_refusal : AmountRefusal → Report
amount_refusal CountTooLarge = record { number = 2; place = 0 }
amount_refusal BadRun = record { number = 3; place = 0 }
