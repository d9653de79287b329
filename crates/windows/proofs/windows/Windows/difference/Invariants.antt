use Rattle.windows.proofs.Differences.{Writes}
use Rattle.windows.proofs.windows.Windows.difference.Given as goal

abbrev pub invariant-loop-turn : goal.invariant-loop-turn
invariant-loop-turn l = Writes l.self l.other l.turn-iterator l.runs l.ends
