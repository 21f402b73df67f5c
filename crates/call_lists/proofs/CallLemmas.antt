-- Calls, as they are made.
use Rattle.std.proofs.Common.{◌≡◌, ℕ, ◌+◌, ◌<◌, ◌≤◌, Bool, true, false, cond, min, ltb, List, [], ◌∷◌, ◌++◌, length, get_or, set, take, drop, is_some, Some, None, Ok, Err, Option, option_map, Result, sym, refl, ap, ◌∙◌, subst, arith}
use Rattle.std.specs.List.{slice_get}
use Rattle.std.proofs.lemmas.Bool.Decides.{nat_tests}
use Rattle.std.proofs.lemmas.List.{length-take, drop_more, drop-drop, drop-set-lt, drop_all, take_more_set, append_assoc, append-nil, take-append-drop}
use Rattle.base.specs.declared.refusal.Refusal.{Refusal}
use Rattle.frames.specs.Frames.{longest_frame}
use Rattle.machine.specs.BoxRounds.{Outcome, rests, rings}
use Rattle.machine.specs.ByFrames.{outcome_by_frames}
use Rattle.machine.specs.Places.{PlaceState, at_rest, down, rung, state_of_outcome}
use Rattle.machine.specs.State.{State}
use Rattle.machine.specs.RoundCall.{round_to_come, frames_heard_by, place_after, on_round}
use Rattle.base.specs.Results.{or_kept}
use Rattle.base.proofs.NumberedLemmas.{list_ext, get-by_number}
use Rattle.promise.specs.declared.request.Request.{Request}
use Rattle.promise.specs.CallLog.{Answer, Log, first_history, undrawn_log, log_after}
use Rattle.promise.specs.CallSteps.{answer_to, state_after_call, state_after, answers_to}
use Rattle.promise.specs.Promise.{OneRing}
use Rattle.promise.specs.PromiseLaws.{FollowsRule, IsPromised, CallsArePromised}
use Rattle.promise.proofs.ListAfterList.{after-append, log-append, log-surplus}
use Rattle.promise.proofs.CallKeepsLog.{was_played}
use Rattle.call_lists.specs.OrdersInHand.{order_out, orders_out}
use Rattle.call_lists.specs.CallLists.{HoldsFromMake}
use Rattle.call_lists.proofs.SlotLemmas.{orders_get}
use Rattle.proposals.specs.Kinds.{Kind}

-- a round counts its line bytes only up to the longest frame
pub playing_room : {K : Type 0} (kind : Kind K) (a b : ℕ) (s : State K) → ltb a longest_frame ≡ ltb b longest_frame
    → on_round kind a s ≡ on_round kind b s
unfolding on_round
playing_room kind a b s e = grind (arith, e)

pub room_same : (line : List ℕ) (m room : ℕ) → length line ≡ longest_frame → m ≡ min room longest_frame
    → ltb (length (take m line)) longest_frame ≡ ltb room longest_frame
room_same line m room full is = let l = length-take m line in grind (arith, nat_tests)

-- ---- a round leaves the orders: before it none is out, and no box that begins to ring has drawn one

module _ {K : Type 0} (kind : Kind K) (room : ℕ) (s : State K) where
  order_after : (p : ℕ) (x : PlaceState K) → order_out p (place_after kind s p x) ≡ order_out p x
  order_after p (at_rest b) = by (is_some (s.wire.lost p)) (outcome_by_frames kind b (frames_heard_by s p))
    where
      by : (t : Bool) (x : Outcome K) → order_out p (cond t (down (round_to_come s)) (state_of_outcome x)) ≡ None
      by true x = refl
      by false (rests b) = refl
      by false (rings r v) = refl
  order_after p (down r) = refl
  order_after p (rung x) = refl

  at_place : (p : ℕ) (o : Option (PlaceState K))
      → option_map (order_out p) (option_map (place_after kind s p) o) ≡ option_map (order_out p) o
  at_place p None = refl
  at_place p (Some x) = ap Some (order_after p x)

  pub round_orders : orders_out (or_kept s (on_round kind room s)).row ≡ orders_out s.row
  round_orders = by (on_round kind room s) refl
    where
      by : (z : Result (State K) Refusal) → on_round kind room s ≡ z → orders_out (or_kept s z).row ≡ orders_out s.row
      by (Err e) is = refl
      by (Ok then) is = list_ext _ _ (λ p.
          orders_get then.row p ∙ ap (λ x. option_map (order_out p) (slice_get x.row p)) (was_played kind room s then is).is
          ∙ ap (option_map (order_out p)) (get-by_number (place_after kind s) s.row p) ∙ at_place p (slice_get s.row p) ∙ sym (orders_get s.row p))

-- ---- one call after another

module _ {K : Type 0} (kind : Kind K) (calls : List Request) (answers : List (Answer K)) (i : ℕ) (x : Request) (inside : i < length calls) (room : length calls ≤ length answers) (s : State K) where
  abbrev call : Request
  call = get_or calls i x

  abbrev more : List Request
  more = drop (i + 1) calls

  pub ends_on : state_after kind (drop i calls) s ≡ state_after kind more (state_after_call kind call s)
  unfolding state_after
  ends_on = ap (λ c. state_after kind c s) (drop_more calls i x inside)

  pub answers_on : take (i + 1) (set answers i (answer_to kind call s)) ++ answers_to kind more (state_after_call kind call s)
      ≡ take i answers ++ answers_to kind (drop i calls) s
  unfolding answers_to
  answers_on =
      ap (λ l. l ++ answers_to kind more (state_after_call kind call s)) (take_more_set answers i (answer_to kind call s) (omega (arith, inside, room)))
      ∙ append_assoc (take i answers) (answer_to kind call s ∷ []) (answers_to kind more (state_after_call kind call s))
      ∙ ap (λ c. take i answers ++ answers_to kind c s) (sym (drop_more calls i x inside))

  pub rest_on : (first : List (Answer K)) → drop i answers ≡ drop i first
      → drop (i + 1) (set answers i (answer_to kind call s)) ≡ drop (i + 1) first
  rest_on first same =
      drop-set-lt (i + 1) answers i (answer_to kind call s) (omega arith) ∙ sym (drop-drop 1 i answers) ∙ ap (drop 1) same ∙ drop-drop 1 i first

-- at the end
module _ {K : Type 0} (kind : Kind K) (calls : List Request) (i : ℕ) (done : length calls ≤ i) (s : State K) where
  pub ends_so : state_after kind (drop i calls) s ≡ s
  unfolding state_after
  ends_so = ap (λ c. state_after kind c s) (drop_all i calls done)

  pub answers_so : (answers first : List (Answer K)) (all : List (Answer K)) → i ≡ length calls
      → take i answers ++ answers_to kind (drop i calls) s ≡ all → drop i answers ≡ drop i first
      → answers ≡ all ++ drop (length calls) first
  unfolding answers_to
  answers_so answers first all at is rest =
      sym (take-append-drop i answers)
      ∙ (λ j. (sym (append-nil (take i answers)) ∙ ap (λ c. take i answers ++ answers_to kind c s) (sym (drop_all i calls done)) ∙ is) j ++ (rest ∙ ap (λ k. drop k first) at) j)

-- ---- what is promised of the calls, of whatever making and calls led up to them

pub goes_on : {K : Type 0} (kind : Kind K) → CallsArePromised kind
    → (calls : List Request) (s end : State K) (answers rest : List (Answer K)) → end ≡ state_after kind calls s
    → answers ≡ answers_to kind calls s ++ rest
    → HoldsFromMake kind s (λ unopened log. let then = log_after calls answers log in FollowsRule kind unopened end then × OneRing kind end then.history)
goes_on {K} kind promised calls s end answers rest ends told n t places m proposals first formed made past_end before is =
    subst (λ x. Both x then) state_is (subst (λ y. Both (state_after kind (before ++ calls) first) y) log_is (whole.follows, whole.one_ring))
  where
    whole : IsPromised kind m.posted (before ++ calls) first (undrawn_log (first_history n t proposals past_end))
    whole = promised n t places m proposals first formed made past_end (before ++ calls)

    begun : Log K
    begun = log_after before (answers_to kind before first) (undrawn_log (first_history n t proposals past_end))

    then : Log K
    then = log_after calls answers begun

    Both : State K → Log K → Type 0
    Both x y = FollowsRule kind m.posted x y × OneRing kind x y.history

    state_is : state_after kind (before ++ calls) first ≡ end
    state_is = after-append kind before calls first ∙ ap (state_after kind calls) (sym is) ∙ sym ends

    log_is : log_after (before ++ calls) (answers_to kind (before ++ calls) first) (undrawn_log (first_history n t proposals past_end))
        ≡ then
    log_is =
        log-append kind before calls first (undrawn_log (first_history n t proposals past_end))
        ∙ ap (λ x. log_after calls (answers_to kind calls x) begun) (sym is)
        ∙ sym (log-surplus kind calls s rest begun)
        ∙ ap (λ a. log_after calls a begun) (sym told)
