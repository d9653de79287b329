-- A session as the code holds it, and how a contract reads off what a line comes to. Assumes nothing.
use Rattle.std.specs.Prelude.{◌≡◌, Result}
use Rattle.script.specs.declared.reply.Done.{Done}
use Rattle.script.specs.declared.reply.LineRefusal.{LineRefusal}
use Rattle.kinds.specs.Engine.{Engine}
use Rattle.tables.specs.Tables.{State}
use Rattle.tables.specs.declared.refusal.Refusal.{Refusal}
use Rattle.rules.specs.Rules.{Outcome}
use Rattle.session.specs.Turns.{Course, Turn, done_of}
use Rattle.session.specs.declared.session.Session.{Session}

-- where the script of a session stands
abbrev pub course : Session → Course
course s = record { begun = s.begun; ledger = record { last = s.head.last_serial; banks = s.banks; grants = s.grants } }

-- a line with the reply r that leaves the script at x came to t
pub record Turned (t : Turn) (r : Result Done LineRefusal) (x : Course) : Type 0 where
  pub replied : r ≡ t.reply
  pub left : x ≡ t.after

-- a call that is done, or refused, as r says, and that leaves the ledger as s, came to what its rule says
pub record CameTo (o : Outcome Engine) (r : Result Done Refusal) (s : State Engine) : Type 0 where
  pub answered : r ≡ done_of o.answer o.placed
  pub left : s ≡ o.after
