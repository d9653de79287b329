use Rattle.std.proofs.Common.{◌-◌, ◌^◌, min, ap, ◌∙◌, arith}
use Rattle.frames.proofs.Masks.{low_table}
use Rattle.frames.proofs.frames.members.byte_below.Goals as goal

pub returns : goal.returns
returns c =
    low_table c.min-n.result (omega arith)
    ∙ ap (λ n. 2 ^ n - 1) (c.min-n.ensures ∙ ap (λ n. min n 8) c.saturating_sub.ensures)
