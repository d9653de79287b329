use Rattle.std.proofs.Common.{◌≡◌, ◌+◌, ◌≤◌, ◌++◌, length, string_bytes}
use Rattle.notation.specs.LinesLeft.{lines_left}
use Rattle.plan.specs.Reports.{plan_report}
use Rattle.kinds.specs.Engine.{engine_answers}
use Rattle.plan.proofs.report.write_report.Given as goal

abbrev pub invariant-loop-number : goal.invariant-loop-number
invariant-loop-number l =
    let numbers = l.number-iterator.a in
    let rest = lines_left l.number-iterator.b in
    (string_bytes l.out ++ plan_report numbers.start l.held rest
    ≡ string_bytes l.initial.out ++ plan_report 1 engine_answers.empty (lines_left l.initial.number-iterator.b))
    × (numbers.start + length rest ≤ 1 + length l.input)
