-- A list of calls, made one after another. To be believed for the promise.
use Rattle.std.specs.Prelude.{◌≡◌, ℕ, not, List, [], ◌∷◌, length, Ok, Option, Result, nat_lt}
use Rattle.base.specs.declared.refusal.Refusal.{Refusal}
use Rattle.base.specs.declared.refusal.Refusal.TheVariants as refusal
use Rattle.base.specs.Refusals.{unless}
use Rattle.wire.specs.WireState.{WireState, IsWellFormed}
use Rattle.machine.specs.State.{State}
use Rattle.machine.specs.MakeCall.{on_make}
use Rattle.promise.specs.declared.request.Request.{Request}
use Rattle.promise.specs.CallLog.{Answer, Log, first_history, undrawn_log, log_after}
use Rattle.promise.specs.CallSteps.{state_after, answers_to}
use Rattle.promise.specs.Promise.{OneRing}
use Rattle.promise.specs.PromiseLaws.{FollowsRule}
use Rattle.ringing.specs.declared.strike.StrikeOrder.{StrikeOrder}
use Rattle.call_lists.specs.OrdersInHand.{are_out}
use Rattle.proposals.specs.Kinds.{Kind}

-- with these orders in hand and so many places for answers, the calls lead to the state after them. It is refused if there are fewer
-- places than calls, or other orders in hand than are out
abbrev pub on_calls : {K : Type 0} → Kind K → List Request → List (Option StrikeOrder) → ℕ → State K → Result (State K) Refusal
on_calls kind calls orders room s =
    unless
    ((nat_lt room (length calls), refusal.Row)
    ∷ (not (are_out s.row orders), refusal.Row)
    ∷ [])
    (state_after kind calls s)

-- it holds whenever a make and a list of calls led to state s: of what stood posted at the make, and of the log of these calls
abbrev pub HoldsFromMake : {K : Type 0} → Kind K → State K → ((ℕ → Option (List ℕ)) → Log K → Type 0) → Type 0
HoldsFromMake {K} kind s Holds =
    (n t places : ℕ) (m : WireState) (proposals : List K) (first : State K)
    → IsWellFormed m
    → on_make n t m places proposals ≡ Ok first
    → (past_end : K) (before : List Request)
    → s ≡ state_after kind before first
    → Holds m.posted (log_after before (answers_to kind before first) (undrawn_log (first_history n t proposals past_end)))

-- what the make promises holds at the end of calls with these answers, from state s to another
abbrev pub KeepsPromise : {K : Type 0} → Kind K → List Request → List (Answer K) → (s end : State K) → Type 0
KeepsPromise kind calls answers s end =
    HoldsFromMake kind s (λ unopened log.
    FollowsRule kind unopened end (log_after calls answers log)
    × OneRing kind end (log_after calls answers log).history)
