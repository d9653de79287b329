-- A pass over a table, row by row.
use Rattle.std.proofs.Common.{◌≡◌, ℕ, zero, suc, ◌+◌, ◌<◌, ◌≤◌, Bool, true, false, cond, List, [], ◌∷◌, map, length, get_or, drop, set, replicate, sym, refl, ap, ◌∙◌, subst, le_of_suc-le-suc, not-suc-le-zero, add-zero, add-suc, suc-add, zero-add, add-one, arith}
use lib.Seq.{set-get_or}
use Rattle.std.proofs.lemmas.List.{at_drop_more, at_drop_all, get_or_default}
use Rattle.std.proofs.lemmas.Bool.{cond-true, cond-false, cond_both}
use Rattle.tables.specs.Rows.{each_at, how_many}
use Rattle.ledger.specs.Passes.{Rewritten}

-- the rows from place j on, of which the first i are rewritten
abbrev pub passed : {X : Type 0} → (ℕ → X → X) → ℕ → ℕ → List X → List X
passed f j zero xs = xs
passed f j (suc i) [] = []
passed f j (suc i) (x ∷ xs) = f j x ∷ passed f (suc j) i xs

module _ {X : Type 0} (f : ℕ → X → X) where
  -- the next row is as it was
  pub passed_read : (j i : ℕ) (xs : List X) (d : X) → get_or (passed f j i xs) i d ≡ get_or xs i d
  passed_read j zero xs d = refl
  passed_read j (suc i) [] d = refl
  passed_read j (suc i) (x ∷ xs) d = passed_read (suc j) i xs d

  pub length_passed : (j i : ℕ) (xs : List X) → length (passed f j i xs) ≡ length xs
  length_passed j zero xs = refl
  length_passed j (suc i) [] = refl
  length_passed j (suc i) (x ∷ xs) = ap suc (length_passed (suc j) i xs)

  set_passed : (j i n : ℕ) (xs : List X) (d : X) → i < length xs → n ≡ j + i → set (passed f j i xs) i (f n (get_or xs i d)) ≡ passed f j (suc i) xs
  set_passed j zero n [] d h e = absurd (not-suc-le-zero h)
  set_passed j zero n (x ∷ xs) d h e = ap (λ (k : ℕ). f k x ∷ xs) (e ∙ add-zero j)
  set_passed j (suc i) n [] d h e = absurd (not-suc-le-zero h)
  set_passed j (suc i) n (x ∷ xs) d h e = ap {B = List X} (λ ys. f j x ∷ ys) (set_passed (suc j) i n xs d (le_of_suc-le-suc h) (e ∙ add-suc j i ∙ sym (suc-add j i)))

  pub passed_more : (i : ℕ) (xs : List X) (d : X) → i < length xs → set (passed f 0 i xs) i (f i (get_or xs i d)) ≡ passed f 0 (i + 1) xs
  passed_more i xs d h = set_passed 0 i i xs d h (sym (zero-add i)) ∙ ap (λ (k : ℕ). passed f 0 k xs) (sym (add-one i))

  pub passed_all : (j i : ℕ) (xs : List X) → length xs ≤ i → passed f j i xs ≡ each_at f j xs
  passed_all j zero [] h = refl
  passed_all j zero (x ∷ xs) h = absurd (not-suc-le-zero h)
  passed_all j (suc i) [] h = refl
  passed_all j (suc i) (x ∷ xs) h = ap {B = List X} (λ ys. f j x ∷ ys) (passed_all (suc j) i xs (le_of_suc-le-suc h))

  -- a turn that writes y over the next row, and one that leaves it; d is any row
  pub passed_write : (i : ℕ) (xs ys : List X) (y d : X) → i < length xs → ys ≡ passed f 0 i xs → y ≡ f i (get_or ys i d) → set ys i y ≡ passed f 0 (i + 1) xs
  passed_write i xs ys y d h e w =
      let read : get_or ys i d ≡ get_or xs i d = ap (λ zs. get_or zs i d) e ∙ passed_read 0 i xs d in
      ap (λ zs. set zs i y) e ∙ ap (λ z. set (passed f 0 i xs) i z) (w ∙ ap (f i) read) ∙ passed_more i xs d h

  pub passed_keep : (i : ℕ) (xs ys : List X) (d : X) → i < length xs → ys ≡ passed f 0 i xs → get_or ys i d ≡ f i (get_or ys i d) → ys ≡ passed f 0 (i + 1) xs
  passed_keep i xs ys d h e w = sym (set-get_or ys i d) ∙ passed_write i xs ys (get_or ys i d) d h e w

pub each_same : {X : Type 0} (y : X) (j : ℕ) (xs : List X) → each_at (λ _ _. y) j xs ≡ replicate (length xs) y
each_same y j [] = refl
each_same y j (x ∷ xs) = ap (λ ys. y ∷ ys) (each_same y (suc j) xs)

pub each_map : {X : Type 0} (f : X → X) (j : ℕ) (xs : List X) → each_at (λ _ x. f x) j xs ≡ map f xs
each_map f j [] = refl
each_map f j (x ∷ xs) = ap (λ ys. f x ∷ ys) (each_map f (suc j) xs)

how_many_le : {X : Type 0} (test : X → Bool) (xs : List X) → how_many test xs ≤ length xs
how_many_le test [] = omega arith
how_many_le test (x ∷ xs) = cond_both (test x) _ _ (λ (n : ℕ). n ≤ length (x ∷ xs)) (λ e. omega (arith, how_many_le test xs)) (λ e. omega (arith, how_many_le test xs))

-- no more rows are changed than there are
pub few_changed : {X : Type 0} {test : X → Bool} {change : X → X} {xs ys : List X} {n : ℕ} → Rewritten test change xs ys n → n ≤ length xs
few_changed {test = test} {xs = xs} r = omega (arith, r.counts, how_many_le test xs)

-- a pass that counts the rows that pass the test, and rewrites them; d is any row
module _ {X : Type 0} (test : X → Bool) (f : X → X) (xs : List X) where
  pub record Tally (i n : ℕ) (ys : List X) : Type 0 where
    pub rows : ys ≡ passed (λ _ x. cond (test x) (f x) x) 0 i xs
    pub counted : n + how_many test (drop i xs) ≡ how_many test xs
    pub few : n ≤ i

  module _ {i n : ℕ} {ys : List X} (so_far : Tally i n ys) (within : i < length xs) (d : X) (t : Bool) (passes : test (get_or ys i d) ≡ t) where
    row : test (get_or xs i d) ≡ t
    row = ap test (sym (ap (λ zs. get_or zs i d) so_far.rows ∙ passed_read _ 0 i xs d)) ∙ passes

    left : how_many test (drop i xs) ≡ cond t (suc (how_many test (drop (i + 1) xs))) (how_many test (drop (i + 1) xs))
    left = at_drop_more (how_many test) xs i d within ∙ ap (λ b. cond b (suc (how_many test (drop (i + 1) xs))) (how_many test (drop (i + 1) xs))) row

  pub tally_hit : {i n m : ℕ} {ys zs : List X} {y : X} → Tally i n ys → i < length xs → (d e : X) → true ≡ test (get_or ys i d) → y ≡ f (get_or ys i e) → zs ≡ set ys i y → m ≡ n + 1 → Tally (i + 1) m zs
  tally_hit {i} {n} {m} {ys} {zs} so_far within d e hit made is up = record {
    rows = is ∙ passed_write _ i xs ys _ d within so_far.rows (made ∙ ap f (get_or_default ys i e d (subst (λ k. i < k) (sym (ap length so_far.rows ∙ length_passed _ 0 i xs)) within)) ∙ sym (cond-true _ _ _ (sym hit)));
    counted = omega (arith, left so_far within d true (sym hit), so_far.counted);
    few = omega (arith, so_far.few);
  }

  pub tally_miss : {i n m : ℕ} {ys zs : List X} → Tally i n ys → i < length xs → (d : X) → false ≡ test (get_or ys i d) → zs ≡ ys → m ≡ n → Tally (i + 1) m zs
  tally_miss {i} {n} {m} {ys} {zs} so_far within d miss is same = record {
    rows = is ∙ passed_keep _ i xs ys d within so_far.rows (sym (cond-false _ _ _ (sym miss)));
    counted = omega (arith, left so_far within d false (sym miss), so_far.counted);
    few = omega (arith, so_far.few);
  }

  module _ {i n : ℕ} {ys : List X} (so_far : Tally i n ys) (end : length xs ≤ i) where
    pub tally_count : n ≡ how_many test xs
    tally_count = omega (arith, at_drop_all (how_many test) xs i end, so_far.counted)

    pub tally_rows : ys ≡ map (λ x. cond (test x) (f x) x) xs
    tally_rows = so_far.rows ∙ passed_all _ 0 i xs end ∙ each_map _ 0 xs
