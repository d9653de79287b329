-- How many seconds windows tell apart, and in how many places they keep their runs.
use Rattle.std.specs.Prelude.{ℕ}

abbrev pub second_count : ℕ
second_count = 128

abbrev pub window_places : ℕ
window_places = 64
