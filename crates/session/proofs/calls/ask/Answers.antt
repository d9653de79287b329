use Rattle.std.proofs.lemmas.Result.{err_from_is_err_and}
use Rattle.ledger.specs.Posts.{lent}
use Rattle.session.proofs.Came.{buy_refused, buy_done}
use Rattle.session.proofs.calls.ask.Goals as goal

pub returns-in_err-buy-in-Buy-clause-came : goal.returns-in_err-buy-in-Buy-clause-came
returns-in_err-buy-in-Buy-clause-came c =
    let came = buy_refused (lent c.args.ledger.now) (lent c.buy.new.self) c.in-Buy.bank c.in-Buy.row c.in-Buy.amount _ c.in_err-buy-in-Buy.ensures.meets in
    let p = err_from_is_err_and c.from_residual-in_err-buy-in-Buy.result c.from_residual-in_err-buy-in-Buy.ensures.1 in
    rw (c.in-Buy.is, p.1, p.2) came

pub returns-in_ok-buy-in-Buy-clause-came : goal.returns-in_ok-buy-in-Buy-clause-came
returns-in_ok-buy-in-Buy-clause-came c =
    rw c.in-Buy.is (buy_done (lent c.args.ledger.now) (lent c.buy.new.self) c.in-Buy.bank c.in-Buy.row c.in-Buy.amount _ c.in_ok-buy-in-Buy.ensures.meets)
