-- Ten digits leave room in 64 bits, each digit adds to the value, and after the last the value is the number.
use Rattle.std.proofs.Common.{sym, ◌∙◌, arith, false-eqb}
use Rattle.notation.proofs.Digits.{room, more_digits, no_number, whole-number}
use Rattle.notation.proofs.numbers.read_number.Goals as goal

pub returns-then-not-is_ascii_digit : goal.returns-then-not-is_ascii_digit
returns-then-not-is_ascii_digit c =
    no_number c.args.bytes.now c.loop-b.b-index (omega arith) (sym c.if-not-is_ascii_digit.ensures.value)

pub overflow_mul-value : goal.overflow_mul-value
overflow_mul-value c = omega (arith, room c.args.bytes.now c.loop-b.b-index c.loop-b.invariant.1 (omega arith))

pub overflow_add-value : goal.overflow_add-value
overflow_add-value c = omega (arith, room c.args.bytes.now c.loop-b.b-index c.loop-b.invariant.1 (omega arith))

pub loop-b-preserved : goal.loop-b-preserved
loop-b-preserved c =
    more_digits c.args.bytes.now c.loop-b.b-index c.loop-b.value c.from.result
    (omega arith) c.loop-b.invariant c.if-not-is_ascii_digit.ensures.cases c.from.ensures

pub returns : goal.returns
returns c =
    c.ok.ensures.value
    ∙ whole-number c.args.bytes.now c.loop-b.b-index c.loop-b.value c.try_from.result
    (omega (arith, false-eqb _ 0 c.if-is_empty.ensures)) (omega arith) (omega arith) c.loop-b.invariant c.try_from.ensures
