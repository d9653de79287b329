use Rattle.std.proofs.Common.{rules}
use Rattle.std.proofs.lemmas.Slice.Eq.{bytes_eq-Decides}
use Rattle.sets.proofs.Answering.{same_members}
use Rattle.frames.specs.FrameFacts.{frame_sets, same_data}
use Rattle.frames.proofs.frames.algebra.FramesKind.same.Goals as goal

pub returns-clause-equal : goal.returns-clause-equal
returns-clause-equal c = search (rules, same_data, bytes_eq-Decides)

pub returns-clause-by_members : goal.returns-clause-by_members
returns-clause-by_members c = same_members frame_sets c.args.self.now c.args.other.now _ (search (rules, same_data, bytes_eq-Decides))
