-- The first piece is the first line, and one line fewer is left.
use Rattle.std.proofs.Common.{length, ap, arith, rules, false-eqb}
use Rattle.notation.proofs.LineCutting.{first-line}
use Rattle.notation.proofs.lines.LinesIterator.next.Goals as goal
use Rattle.std.proofs.iter.Next.{firm}

pub returns : goal.returns
returns c =
    let some = false-eqb _ 0 c.if-is_empty.ensures in
    let step =
    first-line c.args.self.now.rest.now c.first_piece.result.0.now c.first_piece.result.1 _ c.unwrap_or-self.result
    (omega arith) (search rules) (search rules) c.unwrap_or-self.ensures
    in
    record { steps = step; goes = firm ((tt, tt, omega (arith, ap length step))) (λ h. search rules) }
