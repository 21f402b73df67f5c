-- Each call, accepted or refused, keeps a ringing with its row to the log.
use Rattle.std.specs.Result.{result_map_both}
use Rattle.std.proofs.Common.{◌≡◌, ℕ, suc, ◌<◌, Bool, true, false, cond, List, [], ◌∷◌, is_some, Ok, Err, Option, Result, is_ok, sym, refl, ap, ◌∙◌, subst, arith}
use Rattle.std.proofs.lemmas.Bool.{both_ways}
use Rattle.std.proofs.lemmas.Bool.Decides.{nat_tests}
use Rattle.base.specs.declared.refusal.Refusal.{Refusal}
use Rattle.base.specs.Results.{or_kept}
use Rattle.sets.specs.declared.box_number.BoxNumber.{BoxNumber}
use Rattle.sets.specs.declared.round_number.RoundNumber.{RoundNumber}
use Rattle.sets.specs.declared.set.BoxSet.{BoxSet}
use Rattle.sets.specs.Masks.{member}
use Rattle.proposals.specs.Kinds.{Kind}
use Rattle.machine.specs.WireState.{WireState, IsWellFormed, with_falling, on_fall as wire_on_fall}
use Rattle.rule.specs.Falls.{with_fall}
use Rattle.rule.specs.Histories.{History}
use Rattle.rule.specs.RuleLaws.{BoxBegins, BoxFollows, OnlyPastCounts, FallToComeCountsNot}
use Rattle.machine.specs.declared.place.Blow.{Blow}
use Rattle.machine.specs.State.{State, gone_count}
use Rattle.machine.specs.MakeCall.{on_make}
use Rattle.machine.specs.RowCheck.{is_over}
use Rattle.machine.specs.FallCall.{on_fall}
use Rattle.machine.specs.RoundCall.{on_round, state_after_round}
use Rattle.machine.specs.OrderCalls.{with_blow, on_draw, state_after_draw, on_report}
use Rattle.machine.proofs.BlowsDoNotCount.{blow_on, rung_over, was_drawn, was_reported}
use Rattle.promise.specs.declared.request.Request.{Request}
use Rattle.promise.specs.declared.request.Request.TheVariants as request
use Rattle.promise.specs.declared.request.Reply.TheVariants as reply
use Rattle.promise.specs.CallLog.{Answer, Log, first_history, undrawn_log, blows_with, with_call, log_after}
use Rattle.promise.specs.CallSteps.{done_answer, answer_to, state_after_call, state_after, answers_to}
use Rattle.promise.specs.StateByHistory.{state_by}
use Rattle.promise.proofs.StateByPlace.{n_is}
use Rattle.promise.proofs.KeptFromCallToCall.{Going, Kept}
use Rattle.promise.proofs.BlowsBesideHistory.{kept, base_over, none_drawn, going_now}
use Rattle.promise.proofs.FallAccepted.{none_of, fall_kept}
use Rattle.promise.proofs.RoundAccepted.{round_kept}
use Rattle.promise.proofs.FirstState.{checked, made_so}

-- what was checked as a fall was accepted
record Told {K : Type 0} (q : ℕ) (lost : BoxSet) (s then : State K) : Type 0 where
  still : is_over s ≡ false
  placed : q < s.wire.n
  up : member s.wire.up q ≡ true
  unfallen : is_some (s.wire.lost q) ≡ false
  spare : gone_count s.wire < s.t
  is : then ≡ record s { wire = with_falling q lost s.wire }

told : {K : Type 0} (q : BoxNumber) (lost : BoxSet) (s then : State K) → on_fall q lost s ≡ Ok then → Told q.0 lost s then
unfolding on_fall wire_on_fall
told q lost s then e = record {
  still = grind (arith, nat_tests);
  placed = grind (arith, nat_tests);
  up = grind (arith, nat_tests);
  unfallen = grind (arith, nat_tests);
  spare = grind (arith, nat_tests);
  is = grind (arith, nat_tests);
}

-- and a round
pub record Played {K : Type 0} (kind : Kind K) (s then : State K) : Type 0 where
  pub still : is_over s ≡ false
  pub is : then ≡ state_after_round kind s

pub was_played : {K : Type 0} (kind : Kind K) (room : ℕ) (s then : State K) → on_round kind room s ≡ Ok then → Played kind s then
unfolding on_round
was_played kind room s then e = record { still = grind (arith, nat_tests); is = grind (arith, nat_tests) }

module _ {K : Type 0} (kind : Kind K) (unopened : ℕ → Option (List ℕ)) (coming : FallToComeCountsNot)
    (only_past : (h : History K) → OnlyPastCounts h kind)
    (follows : (h : History K) → BoxFollows h kind) where
  module _ (s : State K) (h : History K) (g : Going kind unopened s h) where
    abbrev by_history : State K
    by_history = state_by kind h unopened

    falls : (q : BoxNumber) (lost : BoxSet) (then : State K) → on_fall q lost s ≡ Ok then
        → Going kind unopened then (record h { falls = with_fall (suc h.closed) q.0 lost h.falls })
    falls q lost then e =
        let t = told q lost by_history then (ap (on_fall q lost) (sym g.is) ∙ e) in
        let n = n_is kind h g.allowed.size unopened in
        subst (λ x. Going kind unopened x (record h { falls = with_fall (suc h.closed) q.0 lost h.falls })) (sym t.is)
        (fall_kept kind unopened coming only_past h g.allowed g.quiet g.due q.0 lost (omega (arith, t.placed, n)) t.up (none_of (by_history.wire.lost q.0) t.unfallen) t.spare)

    plays : (room : ℕ) (then : State K) → on_round kind room s ≡ Ok then → Going kind unopened then (record h { closed = suc h.closed })
    plays room then e =
        let p = was_played kind room by_history then (ap (on_round kind room) (sym g.is) ∙ e) in
        subst (λ x. Going kind unopened x (record h { closed = suc h.closed })) (sym p.is)
        (round_kept kind unopened h g.allowed g.quiet g.due p.still (follows h) only_past)

  module _ (s : State K) (c : Log K) (k : Kept kind unopened s c) where
    -- where a box rings, a blow is one more beside the same history
    blows : (b : Blow) (p : ℕ) (then : State K) → is_over s ≡ true → then ≡ with_blow b p s
        → Kept kind unopened then (record c { blows = blows_with b p c.blows })
    blows b p then rings is = record {
      going = k.going;
      is = is ∙ ap (with_blow b p) k.is ∙ blow_on c.blows (state_by kind c.history unopened) b p;
      fresh = λ still. absurd (both_ways (is_over s) (sym (base_over kind unopened s c k) ∙ still) rings);
    }

    reported : (b : Blow) (p : BoxNumber) (r : RoundNumber) (z : Result (State K) Refusal) → on_report b p r s ≡ z
        → Kept kind unopened (or_kept s z) (cond (is_ok (done_answer {K = K} z)) (record c { blows = blows_with b p.0 c.blows }) c)
    reported b p r (Ok then) e = let o = was_reported s p b r then e in blows b p.0 then (rung_over s p.0 o.x o.there) o.is
    reported b p r (Err x) e = k

    pub step : (a : Request) → Kept kind unopened (state_after_call kind a s) (cond (is_ok (answer_to kind a s)) (with_call a c) c)
    step (request.Fall q lost) = by (on_fall q lost s) refl
      where
        by : (z : Result (State K) Refusal) → on_fall q lost s ≡ z
            → Kept kind unopened (or_kept s z) (cond (is_ok (done_answer {K = K} z)) (with_call (request.Fall q lost) c) c)
        by (Ok then) e =
            let t = told q lost s then e in
            kept kind unopened then _ (falls s c.history (going_now kind unopened s c k t.still) q lost then e) c.blows (none_drawn kind unopened s c k t.still)
        by (Err x) e = k
    step (request.Round room) = by (on_round kind room s) refl
      where
        by : (z : Result (State K) Refusal) → on_round kind room s ≡ z
            → Kept kind unopened (or_kept s z) (cond (is_ok (done_answer {K = K} z)) (with_call (request.Round room) c) c)
        by (Ok then) e =
            let t = was_played kind room s then e in
            kept kind unopened then _ (plays s c.history (going_now kind unopened s c k t.still) room then e) c.blows (none_drawn kind unopened s c k t.still)
        by (Err x) e = k
    step (request.Ask p) = by (is_ok (answer_to kind (request.Ask p) s))
      where
        by : (t : Bool) → Kept kind unopened s (cond t c c)
        by true = k
        by false = k
    step (request.Draw p) = by (on_draw p s) refl
      where
        handed : Result (RoundNumber × State K) Refusal → Answer K
        handed z = result_map_both (λ x. reply.Drawn x.0) (λ e. e) z

        by : (z : Result (RoundNumber × State K) Refusal) → on_draw p s ≡ z
            → Kept kind unopened (or_kept s (state_after_draw z)) (cond (is_ok (handed z)) (with_call (request.Draw p) c) c)
        by (Ok (r, then)) e = let d = was_drawn s p r then e in blows _ p.0 then (rung_over s p.0 d.x d.there) d.is
        by (Err x) e = k
    step (request.Struck p r) = reported _ p r (on_report _ p r s) refl
    step (request.Missed p r) = reported _ p r (on_report _ p r s) refl

  all : (calls : List Request) (s : State K) (c : Log K) → Kept kind unopened s c
      → Kept kind unopened (state_after kind calls s) (log_after calls (answers_to kind calls s) c)
  unfolding state_after answers_to log_after
  all [] s c k = k
  all (a ∷ more) s c k = all more (state_after_call kind a s) (cond (is_ok (answer_to kind a s)) (with_call a c) c) (step s c k a)

-- so the log gives the state after every list of calls
pub calls_kept : {K : Type 0} (kind : Kind K) → FallToComeCountsNot → ((h : History K) → OnlyPastCounts h kind)
    → ((h : History K) → BoxBegins h kind) → ((h : History K) → BoxFollows h kind)
    → (n t places : ℕ) (m : WireState) (proposals : List K) (s : State K) → IsWellFormed m → on_make n t m places proposals ≡ Ok s
    → (past_end : K) (calls : List Request)
    → Kept kind m.posted (state_after kind calls s)
    (log_after calls (answers_to kind calls s) (undrawn_log (first_history n t proposals past_end)))
calls_kept kind coming only_past begins follows n t places m proposals s formed made past_end calls =
    let h = first_history n t proposals past_end in
    all kind m.posted coming only_past follows calls s (undrawn_log h)
    (kept kind m.posted s h (made_so kind begins n t places m formed proposals s (checked n t places m proposals s made) past_end) _ (λ p. refl))
