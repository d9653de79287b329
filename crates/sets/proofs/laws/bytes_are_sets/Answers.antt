use Rattle.sets.proofs.Bits.{bytes_of_sound, bit_of-bytes_of, same_bytes}
use Rattle.sets.proofs.laws.bytes_are_sets.Goals as goal

pub returns : goal.returns
returns c = record { keep = λ n f. (bytes_of_sound n f, bit_of-bytes_of n f); differ = same_bytes }
