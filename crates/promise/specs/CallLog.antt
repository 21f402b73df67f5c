-- What calls and their answers tell, and nothing else: the history, and how far each blow has come. To be believed for the promise.
use Rattle.std.specs.Prelude.{ℕ, suc, if◌then◌else◌, List, [], ◌∷◌, slice_index_or, Result, is_ok, ◌==◌}
use Rattle.base.specs.declared.refusal.Refusal.{Refusal}
use Rattle.rule.specs.Falls.{no_falls, with_fall}
use Rattle.rule.specs.Histories.{History}
use Rattle.machine.specs.declared.place.Blow.{Blow}
use Rattle.machine.specs.declared.place.Blow.TheVariants as blow
use Rattle.promise.specs.declared.request.Request.{Request}
use Rattle.promise.specs.declared.request.Request.TheVariants as request
use Rattle.promise.specs.declared.request.Reply.{Reply}

-- what a call answers, or why it is refused
abbrev pub Answer : Type 0 → Type 0
Answer K = Result (Reply K) Refusal

-- the history, and the blow of each box, of no meaning for one that does not ring
pub record Log (K : Type 0) : Type 0 where
  pub history : History K
  pub blows : ℕ → Blow

-- as a ringing is made: nobody has fallen and no round is closed. What stands for numbers past the proposals does not count
abbrev pub first_history : {K : Type 0} → ℕ → ℕ → List K → K → History K
first_history n t proposals past_end = record {
  n = n;
  t = t;
  proposals = λ p. slice_index_or proposals p past_end;
  falls = no_falls;
  closed = 0;
}

-- the log of a history in which no order was drawn
abbrev pub undrawn_log : {K : Type 0} → History K → Log K
undrawn_log h = record { history = h; blows = λ p. blow.Undrawn }

-- blows, with b for that of box p
abbrev pub blows_with : Blow → ℕ → (ℕ → Blow) → ℕ → Blow
blows_with b p blows q = if q == p then b else blows q

-- what an accepted call adds: a fall is one in the round after those that are closed; a round is closed; the order of a box is out, struck
-- or missed
abbrev pub with_call : {K : Type 0} → Request → Log K → Log K
with_call (request.Fall q lost) c =
    record c { history = record c.history { falls = with_fall (suc c.history.closed) q.0 lost c.history.falls } }
with_call (request.Round room) c = record c { history = record c.history { closed = suc c.history.closed } }
with_call (request.Ask p) c = c
with_call (request.Draw p) c = record c { blows = blows_with blow.Out p.0 c.blows }
with_call (request.Struck p r) c = record c { blows = blows_with blow.Struck p.0 c.blows }
with_call (request.Missed p r) c = record c { blows = blows_with blow.Missed p.0 c.blows }

-- after calls with their answers. A refused call adds nothing, and one with no answer ends it
unfoldable pub log_after : {K : Type 0} → List Request → List (Answer K) → Log K → Log K
log_after [] answers c = c
log_after (call ∷ calls) [] c = c
log_after (call ∷ calls) (answer ∷ answers) c = log_after calls answers (if is_ok answer then with_call call c else c)
