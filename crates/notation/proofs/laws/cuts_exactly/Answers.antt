-- The laws of cut pieces.
use Rattle.notation.proofs.Rejoining.{cuts_exactly_lem, cuts_one_way}
use Rattle.notation.proofs.laws.cuts_exactly.Goals as goal

pub returns : goal.returns
returns c = record { exactly = cuts_exactly_lem; one_way = cuts_one_way }
