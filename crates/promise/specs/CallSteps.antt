-- Calls one after another: what each answers, and the state after it. To be believed for the promise.
use Rattle.std.specs.Prelude.{◌≡◌, Bool, true, ◌&&◌, List, [], ◌∷◌, Result, is_ok}
use Rattle.std.specs.Result.{result_map_both}
use Rattle.base.specs.declared.refusal.Refusal.{Refusal}
use Rattle.base.specs.Results.{or_kept}
use Rattle.proposals.specs.Kinds.{Kind}
use Rattle.machine.specs.declared.place.Blow.TheVariants as blow
use Rattle.machine.specs.declared.place.Standing.{Standing}
use Rattle.machine.specs.State.{State}
use Rattle.machine.specs.FallCall.{on_fall}
use Rattle.machine.specs.RoundCall.{on_round}
use Rattle.machine.specs.OrderCalls.{on_draw, state_after_draw, on_report}
use Rattle.machine.specs.AskCall.{on_ask}
use Rattle.promise.specs.declared.request.Request.{Request}
use Rattle.promise.specs.declared.request.Request.TheVariants as request
use Rattle.promise.specs.declared.request.Reply.TheVariants as reply
use Rattle.promise.specs.CallLog.{Answer}

-- done, unless it is refused
abbrev pub done_answer : {K X : Type 0} → Result X Refusal → Answer K
done_answer r = result_map_both (λ _. reply.Done) (λ e. e) r

-- what is told, unless it is refused
abbrev pub told_answer : {K : Type 0} → Result (Standing K) Refusal → Answer K
told_answer r = result_map_both (λ x. reply.Told x) (λ e. e) r

module _ {K : Type 0} (kind : Kind K) where
  -- what a call answers
  abbrev pub answer_to : Request → State K → Answer K
  answer_to (request.Fall q lost) s = done_answer (on_fall q lost s)
  answer_to (request.Round room) s = done_answer (on_round kind room s)
  answer_to (request.Ask p) s = told_answer (on_ask p s)
  answer_to (request.Draw p) s = result_map_both (λ x. reply.Drawn x.0) (λ e. e) (on_draw p s)
  answer_to (request.Struck p r) s = done_answer (on_report blow.Struck p r s)
  answer_to (request.Missed p r) s = done_answer (on_report blow.Missed p r s)

  -- the ringing with its row after it
  abbrev pub state_after_call : Request → State K → State K
  state_after_call (request.Fall q lost) s = or_kept s (on_fall q lost s)
  state_after_call (request.Round room) s = or_kept s (on_round kind room s)
  state_after_call (request.Ask p) s = s
  state_after_call (request.Draw p) s = or_kept s (state_after_draw (on_draw p s))
  state_after_call (request.Struck p r) s = or_kept s (on_report blow.Struck p r s)
  state_after_call (request.Missed p r) s = or_kept s (on_report blow.Missed p r s)

  -- both, of a call that was made
  abbrev pub StepsTo : Request → State K → Answer K → State K → Type 0
  StepsTo c s answered end = (answered ≡ answer_to c s) × (end ≡ state_after_call c s)

  -- the ringing with its row after a list of calls, accepted or refused
  unfoldable pub state_after : List Request → State K → State K
  state_after [] s = s
  state_after (c ∷ more) s = state_after more (state_after_call c s)

  -- what they answer
  unfoldable pub answers_to : List Request → State K → List (Answer K)
  answers_to [] s = []
  answers_to (c ∷ more) s = answer_to c s ∷ answers_to more (state_after_call c s)

  -- each of them is accepted
  unfoldable pub all_accepted : List Request → State K → Bool
  all_accepted [] s = true
  all_accepted (c ∷ more) s = is_ok (answer_to c s) && all_accepted more (state_after_call c s)
