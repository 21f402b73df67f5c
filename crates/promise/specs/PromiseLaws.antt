-- After any list of calls on a ringing that was made, the rule's values stand in its row, and what is promised holds.
-- To be believed for the promise.
use Rattle.std.specs.Prelude.{◌≡◌, ℕ, false, not, ◌&&◌, ◌==◌, Bool, List, [], ◌∷◌, is_some, Some, Ok, is_ok, Option, nat_le, nat_lt}
use Rattle.std.specs.List.{slice_get}
use Rattle.base.specs.declared.refusal.Refusal.TheVariants.{Stranger}
use Rattle.base.specs.Refusals.{unless}
use Rattle.base.specs.Counts.{any, count}
use Rattle.sets.specs.declared.box_number.BoxNumber.{BoxNumber}
use Rattle.sets.specs.declared.round_number.RoundNumber.{RoundNumber}
use Rattle.sets.specs.declared.set.BoxSet.{BoxSet}
use Rattle.sets.specs.Companies.{is_bad_lost}
use Rattle.proposals.specs.Kinds.{Kind}
use Rattle.machine.specs.Frames.{longest_frame}
use Rattle.machine.specs.WireState.{WireState, IsWellFormed}
use Rattle.rule.specs.Falls.{closes}
use Rattle.rule.specs.Histories.{History, IsAllowed}
use Rattle.rule.specs.RuleValues.{rings, estimate}
use Rattle.rule.specs.RuleLaws.{IsQuietBefore}
use Rattle.machine.specs.declared.place.Blow.{Blow}
use Rattle.machine.specs.declared.place.Rung.{Rung}
use Rattle.machine.specs.Places.{rung, standing_of, with_its_blow, is_undrawn, is_out}
use Rattle.machine.specs.State.{State}
use Rattle.machine.specs.MakeCall.{on_make}
use Rattle.machine.specs.RowCheck.{bad_row}
use Rattle.machine.specs.FallCall.{on_fall}
use Rattle.machine.specs.RoundCall.{on_round}
use Rattle.machine.specs.OrderCalls.{on_draw, on_report, with_blows}
use Rattle.machine.specs.AskCall.{on_ask}
use Rattle.promise.specs.declared.request.Request.{Request}
use Rattle.promise.specs.CallLog.{Log, first_history, undrawn_log, log_after}
use Rattle.promise.specs.CallSteps.{state_after, answers_to}
use Rattle.promise.specs.StateByHistory.{place_by, state_by}
use Rattle.promise.specs.Promise.{OneRing, OrdersOnce}

-- a box of the company that closed the last round rings in it
abbrev pub somebody_rings : {K : Type 0} → History K → Bool
somebody_rings h = any (λ p. closes h.falls p h.closed && rings h p h.closed) h.n

-- box q may fall in the round to come, with this lost set: nobody rings, q is of the company, the set has boxes of the company alone and
-- not q, q has no fall, nor one to come, and fewer than t boxes have
abbrev pub may_fall : {K : Type 0} → History K → ℕ → BoxSet → Bool
may_fall h q lost =
    not (somebody_rings h) && nat_lt q h.n && not (is_bad_lost h.n q lost)
    && not (is_some (h.falls q)) && nat_lt (count (λ i. is_some (h.falls i)) h.n) h.t

-- box p is of the company, closed the last round and rings in it
abbrev pub rings_now : {K : Type 0} → History K → ℕ → Bool
rings_now h p = nat_lt p h.n && closes h.falls p h.closed && rings h p h.closed

-- a ringing with its row is that of a log: the history keeps the limits, nobody rang in it before the last closed round, and the state is
-- that of the history with these blows. By history and blows alone: the row is not refused; a round is accepted exactly if there is room
-- for the longest frame and nobody rings; a fall exactly if the box may fall; drawing exactly if the box rings and its order was not drawn;
-- giving back exactly if the order of this box and round is out; a box that rings does so in the last closed round on its estimate, with
-- its blow; and what is told of each box is what the rule gives it, where other numbers are strangers
pub record FollowsRule {K : Type 0} (kind : Kind K) (unopened : ℕ → Option (List ℕ)) (s : State K) (c : Log K) : Type 0 where
  pub allowed : IsAllowed c.history
  pub quiet : IsQuietBefore c.history c.history.closed
  pub is : s ≡ with_blows c.blows (state_by kind c.history unopened)
  pub good : bad_row s ≡ false
  pub rounds : (room : ℕ) → is_ok (on_round kind room s) ≡ (nat_le longest_frame room && not (somebody_rings c.history))
  pub falls : (q : BoxNumber) (lost : BoxSet) → is_ok (on_fall q lost s) ≡ may_fall c.history q.0 lost
  pub draws : (p : BoxNumber) → is_ok (on_draw p s) ≡ (rings_now c.history p.0 && is_undrawn (c.blows p.0))
  pub reports : (b : Blow) (p : BoxNumber) (r : RoundNumber)
      → is_ok (on_report b p r s) ≡ (rings_now c.history p.0 && is_out (c.blows p.0) && c.history.closed == r.0)
  pub rings : (p : ℕ) (x : Rung K) → slice_get s.row p ≡ Some (rung x)
      → (x.round.0 ≡ c.history.closed) × (x.proposal ≡ estimate c.history kind p c.history.closed) × (x.blow ≡ c.blows p)
  pub told : (p : BoxNumber) → on_ask p s
      ≡ unless ((nat_le c.history.n p.0, Stranger) ∷ []) (standing_of (with_its_blow (c.blows p.0) (place_by kind c.history p.0)))

-- what is promised of calls from a state on, accepted or refused, where this log led up to it. By the log that they and their answers give:
-- the ringing with its row is that of the log; all boxes that ring do so in round t + 1 - D, just those that closed it, and on one
-- proposal; and each strike order is given back at most once
pub record IsPromised {K : Type 0} (kind : Kind K) (unopened : ℕ → Option (List ℕ)) (calls : List Request) (s : State K)
    (first : Log K) : Type 0 where
  pub follows : FollowsRule kind unopened (state_after kind calls s) (log_after calls (answers_to kind calls s) first)
  pub one_ring : OneRing kind (state_after kind calls s) (log_after calls (answers_to kind calls s) first).history
  pub orders : OrdersOnce calls (answers_to kind calls s)

-- it is so of every list of calls, from the making on
abbrev pub CallsArePromised : {K : Type 0} → Kind K → Type 0
CallsArePromised {K} kind = (n t places : ℕ) (m : WireState) (proposals : List K) (s : State K) → IsWellFormed m
    → on_make n t m places proposals ≡ Ok s
    → (past_end : K) (calls : List Request) → IsPromised kind m.posted calls s (undrawn_log (first_history n t proposals past_end))
