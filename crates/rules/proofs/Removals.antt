-- What is left where some of the outstanding grants go. Assumes nothing.
use Rattle.std.proofs.Common.{◌≡◌, Bool, true, false, not, List, map, ◌∙◌}
use Rattle.std.proofs.lemmas.Bool.{not_from_false}
use Rattle.kind.specs.Algebra.{Answers, Part}
use Rattle.rules.specs.Record.{kept}
use Rattle.rules.specs.Law.{Joins}
use Rattle.rules.proofs.Laws.{Laws, holds-part, rest_part, part_trans}
use Rattle.rules.proofs.Joins.{taken}
use Rattle.rules.proofs.Kept.{In, in_kept, kept_swap, kept_all, kept-within}

module _ {A : Type 0} {makes : A → A → A → Type 0} {q : Answers A} (laws : Laws makes q) {X : Type 0} (f : X → A) (p gone : X → Bool) (xs : List X) where
  pub record Lowered (u a : A) : Type 0 where
    pub held : q.holds u a ≡ true
    pub joined : Joins makes q (map f (kept p (kept (λ x. not (gone x)) xs))) (q.remainder u a)
    pub whole : makes a (q.remainder u a) u

  -- all that goes stood among those that p picks
  pub lowered : (u a : A) → Joins makes q (map f (kept p xs)) u → Joins makes q (map f (kept gone xs)) a → ((x : X) → In x xs → gone x ≡ true → p x ≡ true) → Lowered u a
  lowered u a j k h =
      let t = taken laws f gone (kept p xs) a u j (rw (kept-within gone p xs h) k) in
      let r = rest_part laws a t.0 u t.1.1 in
      record {
        held = holds-part laws a t.0 u t.1.1;
        joined = rw (kept_swap p (λ x. not (gone x)) xs) (rw r t.1.0);
        whole = rw r t.1.1;
      }

  -- nothing of what goes stood among them
  pub unlowered : ((x : X) → In x xs → p x ≡ true → gone x ≡ false) → kept p (kept (λ x. not (gone x)) xs) ≡ kept p xs
  unlowered h =
      kept_swap p (λ x. not (gone x)) xs
      ∙ kept_all (λ x. not (gone x)) (kept p xs) (λ x i. let r = in_kept p xs x i in not_from_false (gone x) (h x r.0 r.1))

pub lowered_part : {A : Type 0} {makes : A → A → A → Type 0} {q : Answers A} (laws : Laws makes q) (a b u w : A) → makes a b u → Part makes u w → Part makes b w
lowered_part laws a b u w m h = part_trans laws b u w (a, laws.commutative a b u m) h
