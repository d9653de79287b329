use Rattle.notation.specs.Cut.{lines}
use Rattle.plan.proofs.Balance.{accounts}
use Rattle.plan.proofs.report.write_report.Goals as goal

pub returns-in_err-writeln-clause-accounts : goal.returns-in_err-writeln-clause-accounts
returns-in_err-writeln-clause-accounts c = accounts (lines c.args.input.now)

pub returns-in_err-write_end-clause-accounts : goal.returns-in_err-write_end-clause-accounts
returns-in_err-write_end-clause-accounts c = accounts (lines c.args.input.now)

pub returns-clause-accounts : goal.returns-clause-accounts
returns-clause-accounts c = accounts (lines c.args.input.now)
