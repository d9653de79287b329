-- Worked examples: amounts that make another, and amounts that make nothing.
use Rattle.std.specs.Prelude.{◌≡◌, ℕ, suc, ◌-◌, ◌*◌, ◌%◌, [], ◌∷◌, map, length, replicate, Ok}
use Rattle.std.specs.List.{range_with_len}
use Rattle.count.specs.Counts.{count_of, make_count, Sums}
use Rattle.sets.specs.Runs.{run, blank, within}
use Rattle.windows.specs.WindowSets.{windows_of, make_windows, window_runs, Unites}
use Rattle.windows.specs.declared.windows.Windows.{Windows}

-- x and y make no amount
abbrev pub MakeNothing : {A : Type 0} → (A → A → A → Type 0) → A → A → Type 0
MakeNothing {A} makes x y = (z : A) → makes x y z → ⊥

-- the seconds from..to
abbrev pub seconds : ℕ → ℕ → Windows
seconds from to = windows_of (within from to)

-- the even seconds, and the odd ones
abbrev pub evens : Windows
evens = windows_of (λ k. 1 - k % 2)

abbrev pub odds : Windows
odds = windows_of (λ k. k % 2)

-- numbers and runs are made as amounts of just these
abbrev pub Made : Type 0
Made =
    (make_count 1000000000 ≡ Ok (count_of 1000000000))
    × ((count_of 1000000000).value ≡ 1000000000)
    × (make_windows 0 128 ≡ Ok (seconds 0 128))

-- 999,999,999 and 1 make 1,000,000,000; 1,000,000,000 and 1 make nothing
abbrev pub CountsAdd : Type 0
CountsAdd = Sums (count_of 999999999) (count_of 1) (count_of 1000000000) × MakeNothing Sums (count_of 1000000000) (count_of 1)

-- 0..10 and 10..20 make the one run 0..20; 0..10 and 9..20 make nothing
abbrev pub RunsUnite : Type 0
RunsUnite =
    Unites (seconds 0 10) (seconds 10 20) (seconds 0 20)
    × (window_runs (seconds 0 20) ≡ run 0 20 ∷ [])
    × ((seconds 0 20).runs ≡ run 0 20 ∷ replicate 63 blank)
    × MakeNothing Unites (seconds 0 10) (seconds 9 20)

-- the even seconds are 64 runs of one second; with the odd seconds they make the one run 0..128
abbrev pub EvensAndOdds : Type 0
EvensAndOdds =
    (evens.runs ≡ map (λ p. run (p * 2) (suc (p * 2))) (range_with_len 0 64))
    × (length (window_runs evens) ≡ 64)
    × Unites evens odds (seconds 0 128)
    × (window_runs (seconds 0 128) ≡ run 0 128 ∷ [])

abbrev pub Examples : Type 0
Examples = Made × CountsAdd × RunsUnite × EvensAndOdds
