use Rattle.std.proofs.Common.{◌≡◌, codes, arith, rules}
use Rattle.std.proofs.lemmas.Slice.Eq.{text_from_reads}
use Rattle.script.proofs.reading.next_command.Goals as goal

pub returns-in_ok-next_number-in-reclaim : goal.returns-in_ok-next_number-in-reclaim
returns-in_ok-next_number-in-reclaim c =
    let is : c.args.word.now ≡ codes "reclaim" = text_from_reads _ _ (omega arith) (search rules) in
    rw is (search rules)
