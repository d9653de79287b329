-- An amount that was read is written as it was, but for leading zeros. Assumes nothing.
use Rattle.std.specs.Prelude.{◌≡◌, ℕ, List, ◌++◌, Ok, codes, decimal}
use Rattle.notation.specs.Texts.{part_text}
use Rattle.kinds.specs.Engine.{Engine}
use Rattle.amounts.specs.Judging.{judged}
use Rattle.amounts.specs.Showing.{amount_text}
use Rattle.amounts.specs.declared.written.Written.{Written}

-- what is written, with no leading zeros
abbrev pub written_text : Written → List ℕ
written_text w = decimal w.count ++ (codes " " ++ (part_text w.frames ++ (codes " " ++ part_text w.windows)))

abbrev pub AmountsPrintAsRead : Type 0
AmountsPrintAsRead = (w : Written) (a : Engine) → judged w ≡ Ok a → amount_text a ≡ written_text w
