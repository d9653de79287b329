-- Bytes that are all visible: one by one, and as text.
use Rattle.std.proofs.Common.{◌≡◌, ℕ, zero, suc, ◌<◌, true, false, ◌&&◌, ◌⊎◌, List, [], ◌∷◌, length, None, IsAscii, refl, ap, arith}
use Rattle.std.proofs.lemmas.Bool.{and_parts}
use Rattle.std.proofs.lemmas.Bool.Decides.{nat_tests}
use Rattle.std.specs.Char.{is_ascii_graphic}
use Rattle.std.specs.List.{list_all}
use Rattle.stages.specs.Names.{all_visible, name}

-- a test of each byte tells them
pub visible_tested : (bs : List ℕ) → list_all is_ascii_graphic bs ≡ all_visible bs
unfolding all_visible
visible_tested [] = refl
visible_tested (b ∷ bs) = ap (λ t. is_ascii_graphic b && t) (visible_tested bs)

-- no byte, too many or one that is not visible are no name
pub no_name : (bs : List ℕ) → (length bs ≡ 0) ⊎ ((32 < length bs) ⊎ (all_visible bs ≡ false)) → None ≡ name bs
no_name bs bad = grind (arith, nat_tests)

-- visible bytes are text
pub visible_ascii : (bs : List ℕ) → all_visible bs ≡ true → IsAscii bs
unfolding all_visible
visible_ascii [] e i = omega arith
visible_ascii (b ∷ bs) e zero = let h = (and_parts (is_ascii_graphic b) (all_visible bs) e).0 in grind (arith, nat_tests)
visible_ascii (b ∷ bs) e (suc i) = visible_ascii bs (and_parts (is_ascii_graphic b) (all_visible bs) e).1 i
