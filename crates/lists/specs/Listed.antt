-- What a list holds. Assumes nothing.
use Rattle.std.specs.Prelude.{ℕ, List, take}
use Rattle.lists.specs.declared.list.FixedList.{FixedList}

abbrev pub listed : {T : Type 0} {N : ℕ} → FixedList T N → List T
listed l = take l.used l.places
