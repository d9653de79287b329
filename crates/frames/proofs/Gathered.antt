-- What is gathered of two sets is 0 exactly if they are apart, or the one covers the other.
use Rattle.std.proofs.Common.{◌≡◌, ℕ, zero, suc, ◌+◌, ◌<◌, List, [], ◌∷◌, length, eqb, fold, get_or, refl, ap, ◌∙◌, arith}
use lib.Bits.{bit_and, bit_or, or_add_and, and_le_l, and_le_r}
use Rattle.std.specs.List.{zip}
use Rattle.std.proofs.lemmas.Bool.{eqb-true, eq-eqb}
use Rattle.std.proofs.lemmas.Nat.{and-not}
use Rattle.sets.specs.Members.{apart, covers}
use Rattle.sets.proofs.Answering.{apart-is, covers-is}
use Rattle.sets.proofs.Bits.{apart_bits, apart_bytes, part_bits, part_bytes}
use Rattle.frames.specs.FrameFacts.{frame_sets}
use Rattle.frames.specs.FrameSets.{frame}
use Rattle.frames.specs.Gathered.{gathered, missing}
use Rattle.frames.specs.declared.frames.Frames.{Frames}

or_none : (a b : ℕ) → bit_or a b ≡ 0 → (a ≡ 0) × (b ≡ 0)
or_none a b e = (omega (arith, or_add_and a b, and_le_r a b), omega (arith, or_add_and a b, and_le_l a b))

module _ (f : ℕ → ℕ → ℕ) where
  abbrev from : ℕ → List ℕ → List ℕ → ℕ
  from a xs ys = fold (λ all p. bit_or all (f p.0 p.1)) a (zip xs ys)

  first_none : (a : ℕ) (xs ys : List ℕ) → from a xs ys ≡ 0 → a ≡ 0
  first_none a [] ys e = e
  first_none a (x ∷ xs) [] e = e
  first_none a (x ∷ xs) (y ∷ ys) e = (or_none a (f x y) (first_none (bit_or a (f x y)) xs ys e)).0

  each_none : (a : ℕ) (xs ys : List ℕ) → from a xs ys ≡ 0 → (i : ℕ) → i < length xs → i < length ys → f (get_or xs i 0) (get_or ys i 0) ≡ 0
  each_none a [] ys e i l m = absurd (omega arith)
  each_none a (x ∷ xs) [] e i l m = absurd (omega arith)
  each_none a (x ∷ xs) (y ∷ ys) e zero l m = (or_none a (f x y) (first_none (bit_or a (f x y)) xs ys e)).1
  each_none a (x ∷ xs) (y ∷ ys) e (suc i) l m = each_none (bit_or a (f x y)) xs ys e i (omega arith) (omega arith)

  all_none : (xs ys : List ℕ) → ((i : ℕ) → i < length xs → i < length ys → f (get_or xs i 0) (get_or ys i 0) ≡ 0) → gathered f xs ys ≡ 0
  all_none [] ys h = refl
  all_none (x ∷ xs) [] h = refl
  all_none (x ∷ xs) (y ∷ ys) h =
      ap (λ b. from (bit_or 0 b) xs ys) (h 0 (omega arith) (omega arith)) ∙ all_none xs ys (λ i l m. h (suc i) (omega arith) (omega arith))

pub shared_none : (x y : Frames) → eqb (gathered bit_and x.bytes y.bytes) 0 ≡ apart 256 frame x y
shared_none x y =
    apart-is frame_sets x y _ (
      λ e. apart_bits 32 x.bytes y.bytes (λ i h. each_none bit_and 0 x.bytes y.bytes (eqb-true _ _ e) i (omega arith) (omega arith)),
      λ h. eq-eqb _ _ (all_none bit_and x.bytes y.bytes (λ i l m. apart_bytes 32 x.bytes y.bytes x.sound h i (omega arith))),
    )

pub missing_none : (z x : Frames) → eqb (gathered missing z.bytes x.bytes) 0 ≡ covers 256 frame z x
missing_none z x =
    let part : (i : ℕ) → i < 32 → missing (get_or z.bytes i 0) (get_or x.bytes i 0) + bit_and (get_or z.bytes i 0) (get_or x.bytes i 0) ≡ get_or x.bytes i 0 =
    λ i h. and-not 8 (get_or z.bytes i 0) (get_or x.bytes i 0) (z.sound.1 i h) (x.sound.1 i h) in
    covers-is frame_sets z x _ (
      λ e. part_bits 32 x.bytes z.bytes (λ i h. omega (arith, part i h, each_none missing 0 z.bytes x.bytes (eqb-true _ _ e) i (omega arith) (omega arith))),
      λ h. eq-eqb _ _ (all_none missing z.bytes x.bytes (λ i l m. omega (arith, part i (omega arith), part_bytes 32 x.bytes z.bytes x.sound h i (omega arith)))),
    )
