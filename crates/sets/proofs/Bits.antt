-- Bits of numbers and of bytes: what the operations on bytes do to the sets that they keep.
use Rattle.std.proofs.Common.{◌≡◌, ℕ, zero, suc, ◌+◌, ◌-◌, ◌*◌, ◌/◌, ◌%◌, ◌^◌, ◌<◌, ◌≤◌, min, List, length, get_or, sym, ap, ◌∙◌, subst, ap₂, ⊎_elim, pow-suc, arith, pow_pos, pow_mono}
use mathlib.Core.HLevel.{Π_prop, ×_prop}
use native.Mathlib.Nat.{ℕ_set}
use native.Mathlib.Bridge.{le_prop}
use lib.Bits.{bit_and, bit_xor, and_le_l, and_le_r, xor_lt}
use Rattle.std.proofs.lemmas.Nat.Bits.{bit_at_lowest, bit_at-suc, bit_at-zero, bit_at_and, bit_at_xor, bit_at_ones, bit_at_ones_above, same_from_bits_below}
use Rattle.std.proofs.lemmas.List.FromFn.{length-map-range_with_len, get_or-map-range_with_len}
use Rattle.std.proofs.lemmas.List.{ext_get_or}
use Rattle.std.proofs.lemmas.Bool.{cases_lt}
use Rattle.std.proofs.lemmas.Bool.Decides.{nat_tests}
use Rattle.sets.specs.Bytes.{Bytes, bit, bit_of, binary, bytes_of, mask}
use Rattle.sets.specs.Runs.{within}

-- ---- digits

pub bit-binary : (m : ℕ) (f : ℕ → ℕ) (j : ℕ) → j < m → bit (binary m f) j ≡ min (f j) 1
unfolding binary
bit-binary zero f j h = omega arith
bit-binary (suc m) f zero h = omega (arith, bit_at_lowest (binary (suc m) f))
bit-binary (suc m) f (suc j) h =
    let rest = binary m (λ j. f (suc j)) in
    let half : (min (f 0) 1 + 2 * rest) / 2 ≡ rest = omega arith in
    bit_at-suc _ j ∙ ap (λ n. bit n j) half ∙ bit-binary m (λ j. f (suc j)) j (omega arith)

-- ---- the operations, digit by digit

pub xor-bit : (a b j : ℕ) → bit (bit_xor a b) j + 2 * min (bit a j) (bit b j) ≡ bit a j + bit b j
xor-bit a b j = omega (arith, bit_at_xor a b j)

-- ---- bytes

binary-lt : (m : ℕ) (f : ℕ → ℕ) → binary m f < 2 ^ m
unfolding binary
binary-lt zero f = omega arith
binary-lt (suc m) f = omega (arith, pow-suc 2 m, binary-lt m (λ j. f (suc j)))

pub bytes_of_sound : (n : ℕ) (f : ℕ → ℕ) → Bytes n (bytes_of n f)
unfolding bytes_of
bytes_of_sound n f =
    let g : ℕ → ℕ = λ i. binary 8 (λ j. f (i * 8 + j)) in (
      length-map-range_with_len g 0 n,
      λ i h. subst (λ v. v < 256) (sym (get_or-map-range_with_len g 0 n i i 0 h (omega arith))) (binary-lt 8 (λ j. f (i * 8 + j))),
    )

pub bytes_prop : (n : ℕ) (bs : List ℕ) → IsProp (Bytes n bs)
bytes_prop n bs = ×_prop (ℕ_set (length bs) n) (Π_prop (λ i. Π_prop (λ h. le_prop)))

pub bit_of-bytes_of : (n : ℕ) (f : ℕ → ℕ) (k : ℕ) → k < n * 8 → bit_of (bytes_of n f) k ≡ min (f k) 1
unfolding bit_of bytes_of
bit_of-bytes_of n f k h =
    let g : ℕ → ℕ = λ i. binary 8 (λ j. f (i * 8 + j)) in
    let place : k / 8 * 8 + k % 8 ≡ k = omega arith in
    ap (λ v. bit v (k % 8)) (get_or-map-range_with_len g 0 n (k / 8) (k / 8) 0 (omega arith) (omega arith))
    ∙ bit-binary 8 (λ j. f (k / 8 * 8 + j)) (k % 8) (omega arith)
    ∙ ap (λ v. min (f v) 1) place

pub bit_of-le : (bs : List ℕ) (k : ℕ) → bit_of bs k ≤ 1
unfolding bit_of
bit_of-le bs k = omega arith

-- bit j of byte i is number i * 8 + j
bit-place : (bs : List ℕ) (i j : ℕ) → j < 8 → bit_of bs (i * 8 + j) ≡ bit (get_or bs i 0) j
unfolding bit_of
bit-place bs i j l =
    let hi : (i * 8 + j) / 8 ≡ i = omega arith in
    let lo : (i * 8 + j) % 8 ≡ j = omega arith in
    ap₂ (λ p q. bit (get_or bs p 0) q) hi lo

-- bytes are equal if their bits are
pub same_bytes : (n : ℕ) (xs ys : List ℕ) → Bytes n xs → Bytes n ys → ((k : ℕ) → k < n * 8 → bit_of xs k ≡ bit_of ys k) → xs ≡ ys
same_bytes n xs ys hx hy e =
    ext_get_or 0 xs ys (hx.0 ∙ sym hy.0) (λ i h.
    let lt : i < n = omega (arith, hx.0) in
    same_from_bits_below 8 (get_or xs i 0) (get_or ys i 0) (hx.1 i lt) (hy.1 i lt)
    (λ j l. sym (bit-place xs i j l) ∙ e (i * 8 + j) (omega arith) ∙ bit-place ys i j l))

-- what is seen of each byte, and what of each bit
module _ (n : ℕ) (xs ys : List ℕ) where
  pub apart_bits : ((i : ℕ) → i < n → bit_and (get_or xs i 0) (get_or ys i 0) ≡ 0) → (k : ℕ) → k < n * 8 → bit_of xs k + bit_of ys k ≤ 1
  unfolding bit_of
  apart_bits h k l =
      let i = k / 8 in
      let j = k % 8 in
      let a = get_or xs i 0 in
      let b = get_or ys i 0 in
      let e : min (bit a j) (bit b j) ≡ 0 = sym (bit_at_and a b j) ∙ ap (λ v. bit v j) (h i (omega arith)) ∙ bit_at-zero j in
      omega arith

  pub apart_bytes : Bytes n xs → ((k : ℕ) → k < n * 8 → bit_of xs k + bit_of ys k ≤ 1) → (i : ℕ) → i < n → bit_and (get_or xs i 0) (get_or ys i 0) ≡ 0
  apart_bytes hx h i l =
      let a = get_or xs i 0 in
      let b = get_or ys i 0 in
      same_from_bits_below 8 (bit_and a b) 0 (omega (arith, and_le_l a b, hx.1 i l)) (omega arith) (λ j lj.
      omega (arith, bit_at_and a b j, bit_at-zero j, h (i * 8 + j) (omega arith), bit-place xs i j lj, bit-place ys i j lj))

  pub part_bits : ((i : ℕ) → i < n → bit_and (get_or ys i 0) (get_or xs i 0) ≡ get_or xs i 0) → (k : ℕ) → k < n * 8 → bit_of xs k ≤ bit_of ys k
  unfolding bit_of
  part_bits h k l =
      let i = k / 8 in
      let j = k % 8 in
      let a = get_or xs i 0 in
      let b = get_or ys i 0 in
      let e : min (bit b j) (bit a j) ≡ bit a j = sym (bit_at_and b a j) ∙ ap (λ v. bit v j) (h i (omega arith)) in
      omega arith

  pub part_bytes : Bytes n xs → ((k : ℕ) → k < n * 8 → bit_of xs k ≤ bit_of ys k) → (i : ℕ) → i < n → bit_and (get_or ys i 0) (get_or xs i 0) ≡ get_or xs i 0
  part_bytes hx h i l =
      let a = get_or xs i 0 in
      let b = get_or ys i 0 in
      same_from_bits_below 8 (bit_and b a) a (omega (arith, and_le_r b a, hx.1 i l)) (hx.1 i l) (λ j lj.
      omega (arith, bit_at_and b a j, h (i * 8 + j) (omega arith), bit-place xs i j lj, bit-place ys i j lj))

-- the exclusive or of two lists of bytes mixes their bits
pub mixed_bits : (n : ℕ) (xs ys zs : List ℕ) → ((i : ℕ) → i < n → get_or zs i 0 ≡ bit_xor (get_or xs i 0) (get_or ys i 0))
    → (k : ℕ) → k < n * 8 → bit_of zs k + 2 * min (bit_of xs k) (bit_of ys k) ≡ bit_of xs k + bit_of ys k
unfolding bit_of
mixed_bits n xs ys zs h k l =
    let i = k / 8 in
    let j = k % 8 in
    omega (arith, xor-bit (get_or xs i 0) (get_or ys i 0) j, ap (λ v. bit v j) (h i (omega arith)))

pub mixed_sound : (n : ℕ) (xs ys zs : List ℕ) → Bytes n xs → Bytes n ys → length zs ≡ n
    → ((i : ℕ) → i < n → get_or zs i 0 ≡ bit_xor (get_or xs i 0) (get_or ys i 0)) → Bytes n zs
mixed_sound n xs ys zs hx hy e h =
    (e, λ i l. omega (arith, h i l, xor_lt 8 (get_or xs i 0) (get_or ys i 0) (hx.1 i l) (hy.1 i l)))

-- ---- runs

mask_lt : (n : ℕ) → mask n < 256
mask_lt n = let h : min n 8 ≤ 8 = omega arith in omega (arith, pow_mono h, pow_pos (min n 8))

-- the bytes of a run from `from` up to `to` - 1
module _ (n from to : ℕ) (bs : List ℕ) (h : (i : ℕ) → i < n → get_or bs i 0 ≡ bit_xor (mask (to - i * 8)) (mask (from - i * 8))) where
  pub run_sound : length bs ≡ n → Bytes n bs
  run_sound e =
      (e, λ i l. omega (arith, h i l, xor_lt 8 (mask (to - i * 8)) (mask (from - i * 8)) (mask_lt (to - i * 8)) (mask_lt (from - i * 8))))

  pub run_bits : from ≤ to → (k : ℕ) → k < n * 8 → bit_of bs k ≡ within from to k
  unfolding bit_of
  run_bits le k l =
      let i = k / 8 in
      let j = k % 8 in
      let a = mask (to - i * 8) in
      let b = mask (from - i * 8) in
      let e = ap (λ v. bit v j) (h i (omega arith)) in
      let x = xor-bit a b j in
      ⊎_elim
      (λ (lt : k < from).
      let p = bit_at_ones (min (to - i * 8) 8) j (omega arith) in
      let q = bit_at_ones (min (from - i * 8) 8) j (omega arith) in
      let z : bit (get_or bs i 0) j ≡ 0 = omega arith in
      z ∙ grind (arith, nat_tests))
      (λ (ge : from ≤ k). ⊎_elim
      (λ (lt : k < to).
      let p = bit_at_ones (min (to - i * 8) 8) j (omega arith) in
      let q = bit_at_ones_above (min (from - i * 8) 8) j (omega arith) in
      let z : bit (get_or bs i 0) j ≡ 1 = omega arith in
      z ∙ grind (arith, nat_tests))
      (λ (ge' : to ≤ k).
      let p = bit_at_ones_above (min (to - i * 8) 8) j (omega arith) in
      let q = bit_at_ones_above (min (from - i * 8) 8) j (omega arith) in
      let z : bit (get_or bs i 0) j ≡ 0 = omega arith in
      z ∙ grind (arith, nat_tests))
      (cases_lt k to))
      (cases_lt k from)
