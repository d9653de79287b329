use Rattle.std.proofs.Common.{◌<◌, sym, refl, ap, ◌∙◌, le_trans, arith}
use Rattle.std.proofs.lemmas.Bool.{and_left, and_right}
use Rattle.tables.specs.declared.rows.Bank.{Bank}
use Rattle.tables.specs.Tables.{among, under}
use Rattle.ledger.proofs.Climbs.{under_past, a_chain}
use Rattle.ledger.proofs.Marks.{marks_start, marks_more, marks_keep, marks_all}
use Rattle.ledger.proofs.Scans.{lowest_more, any-among}
use Rattle.ledger.proofs.branches.marks_under.Goals as goal
use Rattle.ledger.proofs.branches.marks_under.Goals.{in-Some, in-None+else-at}

pub loop-row-init : goal.loop-row-init
loop-row-init g c = record { scanned = refl; made = marks_start _ }

pub loop-row-preserved : goal.loop-row-preserved
loop-row-preserved g c =
    let few : c.loop-row.row < 64 = omega arith in
    let so_far = c.loop-row.invariant in
    let row = c.index-banks-row.result in
    elim c.match-chain_of.branch [
      | in-Some w ↦ record {
        scanned = lowest_more _ _ _ so_far.scanned row c.loop-row-test.true (and_right _ _ (a_chain _ w.in-Some.ensures.1));
        made = rw w.marks-is (marks_more so_far.made few _ (w.contains.ensures.value ∙ any-among c.args.bank _ ∙ ap (among c.args.bank) (w.as_slice.ensures ∙ w.in-Some.ensures.0)));
      }
      | in-None+else-at w ↦ record {
        scanned = lowest_more _ _ _ so_far.scanned row c.loop-row-test.true (and_left _ _ (ap (λ (b : Bank g.row.K.Denot). b.live) (sym c.index-banks-row.is) ∙ w.if-at.false));
        made = rw w.marks-is (marks_keep so_far.made (ap (among c.args.bank) w.in-None.ensures));
      }
    ]

pub returns-clause-marks : goal.returns-clause-marks
returns-clause-marks g c =
    marks_all {f = under g.K.Kind.answers.empty c.args.banks.now c.args.bank} c.loop-row.invariant.made (λ b h. under_past _ _ _ b (le_trans c.loop-row-test.false h))
