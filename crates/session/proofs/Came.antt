-- From what a call of the ledger met to what it came to for a session, where the call delivers nothing.
use Rattle.std.proofs.Common.{◌≡◌, ℕ, Some, None, Ok, Err, Option, refl, sym, ap, ◌∙◌}
use Rattle.kinds.specs.Engine.{Engine, engine_answers}
use Rattle.tables.specs.Tables.{State}
use Rattle.tables.specs.declared.refusal.Refusal.{Refusal}
use Rattle.rules.specs.Rules.{Outcome, unless, buys, buy_refusal}
use Rattle.ledger.specs.Posts.{Meets}
use Rattle.session.specs.Courses.{CameTo}
use Rattle.session.specs.Turns.{done_of}

places_nothing : (x : Option Refusal) (s : State Engine) (o : Outcome Engine) → o.placed ≡ None → (unless engine_answers x s o).placed ≡ None
places_nothing None s o e = e
places_nothing (Some r) s o e = refl

pub buy_refused : (s t : State Engine) (b r : ℕ) (a : Engine) (e : Refusal) → Meets (buys engine_answers s b r a) (Err e) t → CameTo (buys engine_answers s b r a) (Err e) t
buy_refused s t b r a e met = record { answered = ap (λ x. done_of x (buys engine_answers s b r a).placed) met.answered; left = met.left }

pub buy_done : (s t : State Engine) (b r : ℕ) (a : Engine) (n : ℕ) → Meets (buys engine_answers s b r a) (Ok n) t → CameTo (buys engine_answers s b r a) (Ok (record { result = n; amount = None })) t
buy_done s t b r a n met = record {
  answered = ap (λ x. done_of x None) met.answered ∙ ap (done_of (buys engine_answers s b r a).answer) (sym (places_nothing (buy_refusal engine_answers s b r a) s _ refl));
  left = met.left;
}
