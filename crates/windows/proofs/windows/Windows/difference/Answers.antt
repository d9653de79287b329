use Rattle.std.proofs.Common.{◌∙◌, arith}
use Rattle.sets.proofs.Answering.{joins, leaves}
use Rattle.windows.specs.WindowFacts.{window_sets}
use Rattle.windows.proofs.Differences.{writes_none, room, writes-over, writes_end, tidy-writes, members-writes}
use Rattle.windows.proofs.windows.Windows.difference.Goals as goal

pub loop-turn-init : goal.loop-turn-init
loop-turn-init c = writes_none c.args.self c.args.other _ (c.into_iter-turn-iterator.ensures.into_iter_gives ∙ c.walk-turn-items.ensures)

pub put_end-requires : goal.put_end-requires
put_end-requires c = room c.loop-turn.invariant c.in-Some.ensures.steps c.if-inside-open.true

pub overflow_add-ends : goal.overflow_add-ends
overflow_add-ends c = omega (arith, room c.loop-turn.invariant c.in-Some.ensures.steps c.if-inside-open.true)

pub loop-turn-preserved-then-inside-open : goal.loop-turn-preserved-then-inside-open
loop-turn-preserved-then-inside-open c =
    writes_end c.loop-turn.invariant c.in-Some.ensures.steps c.put_end.new.runs c.put_end.array_long c.put_end.ensures.here c.put_end.ensures.others c.if-inside-open.true

pub loop-turn-preserved : goal.loop-turn-preserved
loop-turn-preserved c = writes-over c.loop-turn.invariant c.in-Some.ensures.steps c.if-inside-open.false

pub invariant_of-result : goal.invariant_of-result
invariant_of-result c = record { sound = tidy-writes c.loop-turn.invariant c.in-None.ensures.steps }

pub returns : goal.returns
returns c =
    let members = members-writes c.loop-turn.invariant c.in-None.ensures.steps in
    record {
      members = members;
      joined = λ e. joins window_sets c.args.self.now c.args.other.now _ e members;
      left = λ e. leaves window_sets c.args.self.now c.args.other.now _ e members;
    }
