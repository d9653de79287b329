use Rattle.std.proofs.Common.{rules}
use Rattle.std.proofs.lemmas.Slice.Eq.{bytes_eq-Decides}
use Rattle.sets.proofs.Answering.{vacant-is}
use Rattle.frames.specs.FrameFacts.{frame_sets, same_data}
use Rattle.frames.proofs.frames.algebra.FramesKind.is_empty.Goals as goal

pub returns : goal.returns
returns c = vacant-is frame_sets c.args.self.now _ (search (rules, same_data, bytes_eq-Decides))
