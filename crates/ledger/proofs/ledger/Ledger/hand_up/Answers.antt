use Rattle.std.proofs.Common.{arith}
use Rattle.ledger.proofs.RowPasses.{few_changed}
use Rattle.ledger.proofs.ledger.Ledger.hand_up.Goals as goal

pub overflow_cast-result : goal.overflow_cast-result
overflow_cast-result g c = omega (arith, few_changed c.hand_up_grants-count.ensures, c.in_ok-check_closing.ensures.within.1)
