-- A round of a script that is played.
use Rattle.std.proofs.Common.{◌≡◌, ℕ, suc, ◌<◌, ◌≤◌, true, false, ◌⊎◌, List, subst, refl, sym, ap, ◌∙◌, inl, inr, arith}
use Rattle.std.proofs.lemmas.Bool.{cases_lt, both_ways}
use Rattle.machine.specs.State.{State}
use Rattle.machine.specs.RowCheck.{is_over}
use Rattle.promise.specs.CallSteps.{state_after, all_accepted}
use Rattle.scripts.specs.declared.entry.Entry.{Entry}
use Rattle.scripts.specs.ScriptValues.{ScriptValues}
use Rattle.script_play.specs.ScriptCalls.{calls_in, calls_to, ringing_round_of}
use Rattle.script_play.specs.PlayLaws.{CallsAreAccepted}
use Rattle.script_play.proofs.CallByCall.{after_rounds, accepted_round, accepted_back, round_on}
use Rattle.proposals.specs.Kinds.{Kind}

-- from the state `first` on so many rounds of a script are played, the state is x, and the boxes do not ring yet
pub record Here {K : Type 0} (kind : Kind K) (s : ScriptValues) (first : State K) (r : ℕ) (x : State K) : Type 0 where
  pub early : r < ringing_round_of s
  pub is : x ≡ after_rounds kind s.entries first r

module _ {K : Type 0} {kind : Kind K} {s : ScriptValues} {first : State K} (goes : CallsAreAccepted kind s first) where
  pub begins : Here kind s first 0 first
  unfolding calls_to state_after
  begins = record { early = omega (arith, goes.in_time.0); is = refl }

  module _ {r q : ℕ} {x : State K} (here : Here kind s first r x) (step : suc r ≡ q) {es : List Entry} (of_script : es ≡ s.entries) where
    pub calls_accepted : all_accepted kind (calls_in q es) x ≡ true
    calls_accepted =
        let k = (accepted_round kind s.entries first r (accepted_back kind s.entries first (suc r) (ringing_round_of s) (omega (arith, here.early)) goes.accepted)).1 in
        ap (λ y. all_accepted kind (calls_in q y) x) of_script ∙ ap (all_accepted kind (calls_in q s.entries)) here.is
        ∙ subst (λ n. all_accepted kind (calls_in n s.entries) (after_rounds kind s.entries first r) ≡ true) step k

    module _ {y : State K} (next : y ≡ state_after kind (calls_in q es) x) where
      lead : y ≡ after_rounds kind s.entries first q
      lead =
          next ∙ ap (λ z. state_after kind (calls_in q z) x) of_script ∙ ap (state_after kind (calls_in q s.entries)) here.is
          ∙ sym (subst (λ n. after_rounds kind s.entries first n ≡ state_after kind (calls_in n s.entries) (after_rounds kind s.entries first r)) step
          (round_on kind s.entries first r))

      -- where the boxes do not ring then, a round is still to come
      pub still_more : is_over y ≡ false → Here kind s first q y
      still_more quiet = by (cases_lt q (ringing_round_of s))
        where
          by : (q < ringing_round_of s) ⊎ (ringing_round_of s ≤ q) → Here kind s first q y
          by (inl l) = record { early = l; is = lead }
          by (inr m) = absurd (
              let e : ringing_round_of s ≡ q = omega (arith, here.early) in
              both_ways (is_over y) quiet (ap is_over lead ∙ ap (λ n. is_over (after_rounds kind s.entries first n)) (sym e) ∙ goes.rings))

      -- and where they do, it was the last
      pub no_more : is_over y ≡ true → y ≡ after_rounds kind s.entries first (ringing_round_of s)
      no_more rung = by (cases_lt q (ringing_round_of s))
        where
          by : (q < ringing_round_of s) ⊎ (ringing_round_of s ≤ q) → y ≡ after_rounds kind s.entries first (ringing_round_of s)
          by (inl l) = absurd (both_ways (is_over y) (ap is_over lead ∙ goes.still q l) rung)
          by (inr m) = let e : q ≡ ringing_round_of s = omega (arith, here.early) in lead ∙ ap (after_rounds kind s.entries first) e
