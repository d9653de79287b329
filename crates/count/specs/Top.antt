-- The largest count.
use Rattle.std.specs.Prelude.{ℕ}

abbrev pub top : ℕ
top = 1000000000
