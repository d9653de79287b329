-- Sets of the numbers below n by membership: `at x k` is 1 if k is in x, and 0 if not. Assumes nothing.
use Rattle.std.specs.Prelude.{◌≡◌, ℕ, zero, suc, ◌+◌, ◌-◌, ◌*◌, ◌<◌, min, Bool, true, cond, ◌&&◌, nat_le}
use Rattle.kind.specs.Algebra.{Answers}

-- does the test pass at each number below n?
unfoldable pub all_below : ℕ → (ℕ → Bool) → Bool
all_below zero test = true
all_below (suc n) test = test n && all_below n test

module _ {A : Type 0} (n : ℕ) (at : A → ℕ → ℕ) where
  -- sets with the same numbers
  abbrev pub SameMembers : A → A → Type 0
  SameMembers x y = (k : ℕ) → k < n → at x k ≡ at y k

  -- x has the numbers at which f is 1, and no others
  abbrev pub Has : (ℕ → ℕ) → A → Type 0
  Has f x = (k : ℕ) → k < n → at x k ≡ f k

  -- x and y share no number, and z is their union: each number is in z as often as in x and y together
  abbrev pub DisjointUnion : A → A → A → Type 0
  DisjointUnion x y z = (k : ℕ) → k < n → at x k + at y k ≡ at z k

  -- z has the numbers that are in one of x and y but not in both
  abbrev pub OneOfTwo : A → A → A → Type 0
  OneOfTwo x y z = (k : ℕ) → k < n → at z k + 2 * min (at x k) (at y k) ≡ at x k + at y k

  -- no number is in x
  abbrev pub vacant : A → Bool
  vacant x = all_below n (λ k. nat_le (at x k) 0)

  -- no number is in both
  abbrev pub apart : A → A → Bool
  apart x y = all_below n (λ k. nat_le (at x k + at y k) 1)

  -- each number of x is in z
  abbrev pub covers : A → A → Bool
  covers z x = all_below n (λ k. nat_le (at x k) (at z k))

-- what a kind of sets answers, where `of f` is the set of the numbers below n at which f is not 0
module _ {A : Type 0} (n : ℕ) (at : A → ℕ → ℕ) (of : (ℕ → ℕ) → A) where
  abbrev pub union : A → A → A
  union x y = cond (apart n at x y) (of (λ k. at x k + at y k)) (of (λ _. 0))

  abbrev pub without : A → A → A
  without z x = cond (covers n at z x) (of (λ k. at z k - at x k)) (of (λ _. 0))

  abbrev pub set_answers : Answers A
  set_answers = record {
    empty = of (λ _. 0);
    is_empty = vacant n at;
    fits = apart n at;
    join = union;
    holds = covers n at;
    remainder = without;
  }
