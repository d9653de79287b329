use Rattle.std.proofs.Common.{sym, refl, ◌∙◌, rules}
use Rattle.std.proofs.ByRecursion.{All-get_or}
use Rattle.ledger.proofs.Scans.{nearest_found, nearest_more, nearest-end}
use Rattle.ledger.proofs.chains.nearest.Goals as goal

pub offset_bounds-banks-row : goal.offset_bounds-banks-row
offset_bounds-banks-row g c = let h = All-get_or _ _ c.loop-row.row-index 0 c.loop-row-test.true c.requires.within in search rules

pub bounds-banks-row : goal.bounds-banks-row
bounds-banks-row g c = let h = All-get_or _ _ c.loop-row.row-index 0 c.loop-row-test.true c.requires.within in search rules

pub loop-row-init : goal.loop-row-init
loop-row-init g c = λ t tells. refl

pub returns-then-test : goal.returns-then-test
returns-then-test g c = λ t tells.
    nearest_found g.K.Kind.answers.empty t c.args.banks.now _ _ (c.loop-row.invariant t tells) c.requires.within c.loop-row-test.true
    _ c.index-banks-row.is (sym c.if-test.true ∙ tells _ _ c.test.ensures)

pub loop-row-preserved : goal.loop-row-preserved
loop-row-preserved g c = λ t tells.
    nearest_more g.K.Kind.answers.empty t c.args.banks.now _ _ (c.loop-row.invariant t tells) c.requires.within c.loop-row-test.true
    _ c.index-banks-row.is (sym c.if-test.false ∙ tells _ _ c.test.ensures)

pub returns : goal.returns
returns g c = λ t tells. nearest-end g.K.Kind.answers.empty t c.args.banks.now _ _ (c.loop-row.invariant t tells) c.loop-row-test.false
