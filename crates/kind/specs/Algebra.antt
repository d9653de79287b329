-- The laws of a kind: of the relation "x and y make z", and of the answers about it. Assumes nothing.
use Rattle.std.specs.Prelude.{◌≡◌, Bool, Decides, MatchBool}

-- what a kind answers when it is asked
pub record Answers (A : Type 0) : Type 0 where
  pub empty : A
  pub is_empty : A → Bool
  pub fits : A → A → Bool
  pub join : A → A → A
  pub holds : A → A → Bool
  pub remainder : A → A → A

-- the empty amount, and no other, is empty
abbrev pub TellsEmpty : {A : Type 0} → Answers A → Type 0
TellsEmpty {A} answers = (x : A) → Decides (answers.is_empty x) (x ≡ answers.empty)

module _ {A : Type 0} (makes : A → A → A → Type 0) where
  -- two amounts make at most one
  abbrev pub Functional : Type 0
  Functional = (x y z z' : A) → makes x y z → makes x y z' → z ≡ z'

  -- the order of two amounts does not matter
  abbrev pub Commutative : Type 0
  Commutative = (x y z : A) → makes x y z → makes y x z

  -- three amounts that can be put together from the left can be put together from the right, to the same
  abbrev pub Associative : Type 0
  Associative = (x y z u w : A) → makes x y u → makes u z w → (v : A) × (makes y z v × makes x v w)

  -- the empty amount and x make x
  abbrev pub Neutral : A → Type 0
  Neutral empty = (x : A) → makes empty x x

  -- what makes z together with x is one amount at most
  abbrev pub Cancellative : Type 0
  Cancellative = (x y y' z : A) → makes x y z → makes x y' z → y ≡ y'

  -- only empty amounts make the empty amount
  abbrev pub Positive : A → Type 0
  Positive empty = (x y : A) → makes x y empty → (x ≡ empty) × (y ≡ empty)

  -- x is a part of z if some y makes z together with x
  abbrev pub Part : A → A → Type 0
  Part x z = (y : A) × makes x y z

  -- two amounts fit exactly when they make some amount
  abbrev pub TellsFit : Answers A → Type 0
  TellsFit answers = (x y : A) → Decides (answers.fits x y) ((z : A) × makes x y z)

  -- their join is that amount, or the empty one if they do not fit
  abbrev pub GivesJoin : Answers A → Type 0
  GivesJoin answers = (x y : A) → MatchBool (answers.fits x y) (makes x y (answers.join x y)) (answers.join x y ≡ answers.empty)

  -- z holds x exactly when x is a part of z
  abbrev pub TellsPart : Answers A → Type 0
  TellsPart answers = (z x : A) → Decides (answers.holds z x) (Part x z)

  -- the remainder of z by x is what makes z together with x, or the empty amount if z does not hold x
  abbrev pub GivesRemainder : Answers A → Type 0
  GivesRemainder answers = (z x : A) → MatchBool (answers.holds z x) (makes x (answers.remainder z x) z) (answers.remainder z x ≡ answers.empty)
