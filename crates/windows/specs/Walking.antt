-- A walk over the ends of the runs of two sets: the lowest end that is left comes next. Assumes nothing.
use Rattle.std.specs.Prelude.{◌≡◌, ℕ, ◌+◌, ◌*◌, ◌%◌, ◌<◌, ◌≤◌, min, nat_le, Bool, cond, Option, MatchOption, ◌==◌}
use Rattle.std.specs.Borrow.{Bor}
use Rattle.sets.specs.Ends.{end_of}
use Rattle.windows.specs.Sizes.{second_count, window_places}
use Rattle.windows.specs.declared.windows.Windows.{Windows}
use Rattle.windows.specs.declared.windows.walk.Turn.{Turn}
use Rattle.windows.specs.declared.windows.walk.Walk.{Walk}

-- end i of a set; past the last, second_count + 1
abbrev pub end_at : Windows → ℕ → ℕ
end_at x i = end_of second_count x.runs i

-- r is end i of the set, if it has so many
abbrev pub GivesEnd : Windows → ℕ → Option ℕ → Type 0
GivesEnd x i r = MatchOption r (end_at x i ≡ second_count + 1) (λ at. (at ≡ end_at x i) × (at ≤ second_count) × (i < window_places * 2))

-- the walk over two sets, before its first turn
abbrev pub start_of : Bor Windows → Bor Windows → Walk
start_of x y = record { one = x; other = y; passed_in_one = 0; passed_in_other = 0 }

-- the next end: the lowest that is left in one of the two
abbrev pub next_end : Walk → ℕ
next_end w = min (end_at w.one.now w.passed_in_one) (end_at w.other.now w.passed_in_other)

-- how many ends of a set are passed, where i were and the walk turns at `at`
abbrev pub passed : ℕ → Windows → ℕ → ℕ
passed at x i = cond (end_at x i == at) (i + 1) i

-- the walk after it turned at its next end
abbrev pub walked : Walk → Walk
walked w = record w {
  passed_in_one = passed (next_end w) w.one.now w.passed_in_one;
  passed_in_other = passed (next_end w) w.other.now w.passed_in_other;
}

-- is an end of the one set left?
abbrev pub one_left : Walk → Bool
one_left w = nat_le (end_at w.one.now w.passed_in_one) second_count

-- is an end of the other set left?
abbrev pub other_left : Walk → Bool
other_left w = nat_le (end_at w.other.now w.passed_in_other) second_count

-- the turn at the next end: a set has the seconds after it if an odd number of ends is passed
abbrev pub turn_of : Walk → Turn
turn_of w = record {
  at = next_end w;
  one_left = one_left w;
  other_left = other_left w;
  in_one = (walked w).passed_in_one % 2 == 1;
  in_other = (walked w).passed_in_other % 2 == 1;
}

-- r is the turn at the next end, if one is left, and v is past it
abbrev pub WalksOn : Walk → Option Turn → Walk → Type 0
WalksOn w r v = MatchOption r (second_count < next_end w) (λ t. (t ≡ turn_of w) × (v ≡ walked w) × (next_end w ≤ second_count))
