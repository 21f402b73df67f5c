-- A ringing that is made for a script.
use Rattle.base.specs.Results.{refused_with}
use Rattle.std.proofs.Common.{◌≡◌, ℕ, ◌≤◌, List, length, Ok, Err, Result, IfOk, sym, refl, ap, ◌∙◌, arith}
use Rattle.std.specs.Result.{result_map_both}
use Rattle.std.proofs.lemmas.Bool.Decides.{nat_tests}
use Rattle.base.specs.declared.refusal.Refusal.{Refusal}
use Rattle.base.specs.Results.{map_fault}
use Rattle.wire.specs.WireState.{WireState, IsWellFormed}
use Rattle.machine.specs.State.{State}
use Rattle.machine.specs.MakeCall.{on_make}
use Rattle.base.proofs.NumberedLemmas.{get_some}
use Rattle.promise.specs.CallSteps.{state_after}
use Rattle.promise.specs.StateByHistory.{state_by}
use Rattle.scripts.specs.declared.script.Script.{Script}
use Rattle.scripts.specs.ScriptValues.{values_of, KeepsLimits}
use Rattle.script_play.specs.ScriptCalls.{calls_to, ringing_round_of, history_of, on_play}
use Rattle.script_play.specs.PlayLaws.{CallsAreAccepted, LeadsTo, ScriptPlays}
use Rattle.proposals.specs.Kinds.{Kind}

-- every script of this type is one that its reader lets through
pub proper : (s : Script) → KeepsLimits (values_of s)
proper s = record { size = s.size; few = s.few; fitting = s.fitting }

-- what was made, for the script's n and t
pub made_for : {K W : Type 0} (w : W) (n t a b : ℕ) (m : WireState) (places : ℕ) (proposals : List K) (x : State K) → a ≡ n → b ≡ t
    → Ok x ≡ map_fault (refused_with w) (on_make a b m places proposals) → on_make n t m places proposals ≡ Ok x
made_for {K = K} {W = W} w n t a b m places proposals x an bt is = ap (λ k. on_make k t m places proposals) (sym an) ∙ ap (λ k. on_make a k m places proposals) (sym bt) ∙ by (on_make a b m places proposals) is
  where
    by : (r : Result (State K) Refusal) → Ok x ≡ map_fault (refused_with w) r → r ≡ Ok x
    by (Ok y) e = cc
    by (Err d) e = absurd (grind arith)

pub if_ok : {X E : Type 0} (P : X → Type 0) (r : Result X E) → ((x : X) → r ≡ Ok x → P x) → IfOk r P
if_ok P (Ok x) f = f x refl
if_ok P (Err e) f = tt

module _ {K : Type 0} {kind : Kind K} (plays : ScriptPlays kind) (s : Script) {m : WireState} (formed : IsWellFormed m) (proposals : List K) (places : ℕ) where
  module _ {first : State K} (made : on_make s.n s.t m places proposals ≡ Ok first) where
    -- there is a proposal
    some : K
    unfolding on_make
    some = (get_some proposals 0 (let l : 1 ≤ length proposals = (let limits = s.size in grind (arith, nat_tests)) in l)).0

    pub goes : (past_end : K) → LeadsTo kind m.posted (values_of s) (history_of (values_of s) proposals past_end) first
    goes past_end = (plays (values_of s) (proper s) proposals past_end).2 places m first formed made

  module _ {W : Type 0} (w : W) {a b : ℕ} (an : a ≡ s.n) (bt : b ≡ s.t) {first : State K} (is : Ok first ≡ map_fault (refused_with w) (on_make a b m places proposals)) where
    pub made_so : on_make s.n s.t m places proposals ≡ Ok first
    made_so = made_for w s.n s.t a b m places proposals first an bt is

    pub made_goes : CallsAreAccepted kind (values_of s) first
    made_goes = (goes made_so (some made_so)).0

    pub made_plays : {end : State K} (past_end : K)
        → end ≡ state_after kind (calls_to s.entries.items (ringing_round_of (values_of s))) first
        → Ok end ≡ map_fault (refused_with w) (on_play kind (values_of s) m places proposals past_end)
    made_plays past_end lead =
        ap Ok (lead ∙ (goes made_so past_end).1)
        ∙ ap (λ r. map_fault (refused_with w) (result_map_both (λ _. state_by kind (history_of (values_of s) proposals past_end) m.posted) (λ x. x) r)) (sym made_so)
