use Rattle.std.proofs.Common.{sym, ◌∙◌, arith}
use lib.Seq.{set-get_or}
use Rattle.ledger.proofs.RowPasses.{tally_hit, tally_miss, tally_count, tally_rows}
use Rattle.ledger.proofs.passes.rewrite.Goals as goal
use Rattle.ledger.proofs.passes.rewrite.Goals.{then-test, else-test}

pub loop-row-preserved : goal.loop-row-preserved
loop-row-preserved g c =
    let row = c.row-item.result in
    let so_far = c.loop-row.invariant in
    elim c.if-test.branch [
      | then-test w ↦ record {
        few = omega arith;
        tally = λ t f tells changes.
            tally_hit t f _ (so_far.tally t f tells changes) c.loop-row-test.true row row (sym w.if-test.true ∙ tells _ _ c.test.ensures) (changes _ _ w.change.ensures) w.rows-is w.count-is;
      }
      | else-test w ↦ record {
        few = omega arith;
        tally = λ t f tells changes.
            tally_miss t f _ (so_far.tally t f tells changes) c.loop-row-test.true row (sym w.if-test.false ∙ tells _ _ c.test.ensures) (w.rows-is ∙ set-get_or _ _ _) w.count-is;
      }
    ]

pub returns : goal.returns
returns g c = λ t f tells changes. let so_far = c.loop-row.invariant.tally t f tells changes in record {
  counts = tally_count _ _ _ so_far c.loop-row-test.false;
  rows = tally_rows _ _ _ so_far c.loop-row-test.false;
}
