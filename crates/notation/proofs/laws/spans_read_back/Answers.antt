-- The laws of what is read back.
use Rattle.notation.proofs.ReadingBack.{number_again, part_again}
use Rattle.notation.proofs.laws.spans_read_back.Goals as goal

pub returns : goal.returns
returns c = record { numbers = number_again; spans = part_again }
