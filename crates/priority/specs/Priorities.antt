-- The one priority call of a cycle: what two amounts make, and what is answered about them. Assumes nothing.
use Rattle.std.specs.Prelude.{◌≡◌, Bool, true, false, is_some, Some, None, Option}
use Rattle.kind.specs.Algebra.{Answers}
use Rattle.priority.specs.declared.Priority.{Priority}
use Rattle.priority.specs.declared.Priority.TheVariants.{NoCall, Call}

-- what two amounts are together: a cycle has one call, so two calls are no amount
abbrev pub together : Priority → Priority → Option Priority
together NoCall NoCall = Some NoCall
together NoCall Call = Some Call
together Call NoCall = Some Call
together Call Call = None

-- what is left of the first amount without the second, if that is a part of it
abbrev pub without : Priority → Priority → Option Priority
without NoCall NoCall = Some NoCall
without NoCall Call = None
without Call NoCall = Some Call
without Call Call = Some NoCall

-- x and y make z
abbrev pub Makes : Priority → Priority → Priority → Type 0
Makes x y z = together x y ≡ Some z

-- is this no call?
abbrev pub no_call : Priority → Bool
no_call NoCall = true
no_call Call = false

-- the amount that there is, or no call
abbrev pub or_no_call : Option Priority → Priority
or_no_call None = NoCall
or_no_call (Some x) = x

-- what the questions about amounts are answered
abbrev pub priority_answers : Answers Priority
priority_answers = record {
  empty = NoCall;
  is_empty = no_call;
  fits = λ x y. is_some (together x y);
  join = λ x y. or_no_call (together x y);
  holds = λ z x. is_some (without z x);
  remainder = λ z x. or_no_call (without z x);
}
