-- How many frames there are, and in how many bytes a set keeps them.
use Rattle.std.specs.Prelude.{ℕ}

abbrev pub frame_count : ℕ
frame_count = 256

abbrev pub frame_bytes : ℕ
frame_bytes = 32
