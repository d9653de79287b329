-- The laws of a kind, in one record, and what they give at once. Assumes nothing.
use Rattle.std.proofs.Common.{◌≡◌, Bool, true, false, MatchBool}
use Rattle.std.proofs.lemmas.Bool.{false≢true}
use Rattle.kind.specs.Algebra.{Answers, Functional, Commutative, Associative, Cancellative, Part, Neutral, GivesJoin, TellsPart, GivesRemainder}

pub record Laws {A : Type 0} (makes : A → A → A → Type 0) (q : Answers A) : Type 0 where
  pub functional : Functional makes
  pub commutative : Commutative makes
  pub associative : Associative makes
  pub cancellative : Cancellative makes
  pub neutral : Neutral makes q.empty
  pub gives_join : GivesJoin makes q
  pub tells_part : TellsPart makes q
  pub gives_remainder : GivesRemainder makes q

when_true : (b : Bool) (P Q : Type 0) → MatchBool b P Q → b ≡ true → P
when_true true P Q h e = h
when_true false P Q h e = absurd (false≢true e)

module _ {A : Type 0} {makes : A → A → A → Type 0} {q : Answers A} (laws : Laws makes q) where
  -- amounts that fit make their join, and what is held makes the whole with the rest
  pub join_made : (x y : A) → q.fits x y ≡ true → makes x y (q.join x y)
  join_made x y e = when_true (q.fits x y) _ _ (laws.gives_join x y) e

  pub rest_made : (z x : A) → q.holds z x ≡ true → makes x (q.remainder z x) z
  rest_made z x e = when_true (q.holds z x) _ _ (laws.gives_remainder z x) e

  -- what is held is answered to be, and what is left of it is the other part
  pub holds-part : (a b w : A) → makes a b w → q.holds w a ≡ true
  holds-part a b w m = (laws.tells_part w a).1 (b, m)

  pub rest_part : (a b w : A) → makes a b w → q.remainder w a ≡ b
  rest_part a b w m = laws.cancellative a (q.remainder w a) b w (rest_made w a (holds-part a b w m)) m

  pub part_trans : (x y z : A) → Part makes x y → Part makes y z → Part makes x z
  part_trans x y z h k = let t = laws.associative x h.0 k.0 y z h.1 k.1 in (t.0, t.1.1)
