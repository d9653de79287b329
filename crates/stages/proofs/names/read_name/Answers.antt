use Rattle.std.proofs.Common.{◌≡◌, true, length, sym, ap, ◌∙◌, inl, inr, arith, rules, tests, true-eqb, false-eqb}
use Rattle.std.proofs.lemmas.Bool.{and_from, le-leb}
use Rattle.std.proofs.lemmas.Iterator.{YieldsList-from_slice}
use Rattle.std.proofs.lemmas.Iterator.Search.{all_from_yields_List}
use Rattle.std.proofs.lemmas.Str.{IsUtf8-from_ascii}
use Rattle.std.specs.Bool.{then_some}
use Rattle.std.specs.Char.{is_ascii_graphic}
use Rattle.std.specs.Option.{option_map}
use Rattle.notation.proofs.AsText.{read_text}
use Rattle.stages.specs.Names.{all_visible, is_name}
use Rattle.stages.proofs.Visible.{visible_tested, visible_ascii, no_name}
use Rattle.stages.proofs.names.read_name.Goals as goal
use Rattle.stages.proofs.names.read_name.Goals.{then-is_empty-via-then-is_empty, then-is_empty-via-else-is_empty+then-bytes-gt-LONGEST, then-is_empty-via-else-is_empty+else-bytes-gt-LONGEST+then-not-all}

pub returns-then-is_empty : goal.returns-then-is_empty
returns-then-is_empty c =
    let bs = c.args.bytes.now in
    no_name bs (elim c.then-is_empty.branch [
      | then-is_empty-via-then-is_empty w ↦ inl (true-eqb _ 0 w.if-is_empty.ensures)
      | then-is_empty-via-else-is_empty+then-bytes-gt-LONGEST w ↦ inr (inl w.if-bytes-gt-LONGEST.true)
      | then-is_empty-via-else-is_empty+else-bytes-gt-LONGEST+then-not-all w ↦
          let all = all_from_yields_List is_ascii_graphic _ _ w.all.result w.all.ensures.ran (YieldsList-from_slice bs cc) (λ y b q k. search (rules, tests)) in
          inr (inr (sym (visible_tested bs) ∙ sym all ∙ w.if-not-all.true))
    ])

pub returns : goal.returns
returns c =
    let bs = c.args.bytes.now in
    let all = all_from_yields_List is_ascii_graphic _ _ c.all.result c.all.ensures.ran (YieldsList-from_slice bs cc) (λ y b q k. search (rules, tests)) in
    let visible : all_visible bs ≡ true = sym (visible_tested bs) ∙ sym all ∙ c.if-not-all.false in
    let some = le-leb 1 (length bs) (omega (arith, false-eqb _ 0 c.if-is_empty.ensures)) in
    let few = le-leb (length bs) 32 (omega arith) in
    let is : is_name bs ≡ true = and_from _ _ some (and_from _ _ few visible) in
    ap (option_map (λ x. x.now)) c.ok.ensures.value
    ∙ read_text c.from_utf8.result bs _ c.from_utf8.ensures.cases (IsUtf8-from_ascii bs (visible_ascii bs visible))
    ∙ sym (ap (λ b. then_some b bs) is)
