-- The bytes before the first mark are the first piece, or all bytes where there is none.
use Rattle.std.proofs.Common.{rules}
use Rattle.std.proofs.lemmas.List.{take_rest}
use Rattle.notation.proofs.Cutting.{cut_first, uncut}
use Rattle.notation.proofs.pieces.first_piece.Goals as goal

pub returns-in-Some : goal.returns-in-Some
returns-in-Some c = simp take_rest (search (rules, cut_first))

pub returns-in-None : goal.returns-in-None
returns-in-None c = search (rules, uncut)
