-- Blows beside a history.
use Rattle.std.specs.List.{slice_get}
use Rattle.std.proofs.Common.{◌≡◌, ℕ, Bool, true, false, cond, leb, ltb, List, Some, None, Option, option_map, refl, sym, ap, ◌∙◌}
use Rattle.base.proofs.NumberedLemmas.{list_ext}
use Rattle.sets.specs.Companies.{is_company}
use Rattle.proposals.specs.Kinds.{Kind}
use Rattle.machine.specs.BoxRounds.{Outcome, rests, rings}
use Rattle.rule.specs.declared.falls.Fall.{Fall}
use Rattle.rule.specs.Histories.{History}
use Rattle.rule.specs.HeldValues.{outcome_of}
use Rattle.machine.specs.declared.place.Blow.{Blow}
use Rattle.machine.specs.declared.place.Blow.TheVariants as blow
use Rattle.machine.specs.Places.{down, state_of_outcome, with_its_blow}
use Rattle.machine.specs.State.{State}
use Rattle.machine.specs.RowCheck.{is_over}
use Rattle.machine.specs.OrderCalls.{with_blows}
use Rattle.machine.proofs.BlowsDoNotCount.{blown_at, over_same}
use Rattle.promise.specs.CallLog.{Log}
use Rattle.promise.specs.StateByHistory.{place_by_fall, place_by, state_by}
use Rattle.promise.proofs.StateByPlace.{at_place}
use Rattle.promise.proofs.KeptFromCallToCall.{Going, Kept}

module _ {K : Type 0} (kind : Kind K) (h : History K) (limits : is_company h.n h.t ≡ true) (unopened : ℕ → Option (List ℕ)) where
  abbrev base : State K
  base = state_by kind h unopened

  -- by a history boxes that ring have drawn no order
  stood_new : (o : Option Fall) (x : Outcome K) → with_its_blow blow.Undrawn (place_by_fall o h.closed x) ≡ place_by_fall o h.closed x
  stood_new None (rests b) = refl
  stood_new None (rings r v) = refl
  stood_new (Some f) x = by (leb f.round.0 h.closed) x
    where
      by : (t : Bool) (x : Outcome K)
          → with_its_blow blow.Undrawn (cond t (down f.round) (state_of_outcome x)) ≡ cond t (down f.round) (state_of_outcome x)
      by true x = refl
      by false (rests b) = refl
      by false (rings r v) = refl

  -- so with no order drawn it is the state of the history
  pub undrawn_same : with_blows (λ p. blow.Undrawn) base ≡ base
  undrawn_same = λ j. record base { row = rows j }
    where
      there : (p : ℕ) (t : Bool)
          → option_map (with_its_blow blow.Undrawn) (cond t (Some (place_by kind h p)) None) ≡ cond t (Some (place_by kind h p)) None
      there p true = ap Some (stood_new (h.falls p) (outcome_of h kind p h.closed))
      there p false = refl

      rows : (with_blows (λ p. blow.Undrawn) base).row ≡ base.row
      rows = list_ext _ _ (λ p. blown_at (λ p. blow.Undrawn) base p ∙ ap (option_map (with_its_blow blow.Undrawn)) (at_place kind h limits p) ∙ there p (ltb p h.n) ∙ sym (at_place kind h limits p))

  -- what stands at a place
  pub blown_place : (blows : ℕ → Blow) (p : ℕ)
      → slice_get (with_blows blows base).row p ≡ cond (ltb p h.n) (Some (with_its_blow (blows p) (place_by kind h p))) None
  blown_place blows p = blown_at blows base p ∙ ap (option_map (with_its_blow (blows p))) (at_place kind h limits p) ∙ by (ltb p h.n)
    where
      by : (t : Bool)
          → option_map (with_its_blow (blows p)) (cond t (Some (place_by kind h p)) None)
          ≡ cond t (Some (with_its_blow (blows p) (place_by kind h p))) None
      by true = refl
      by false = refl

module _ {K : Type 0} (kind : Kind K) (unopened : ℕ → Option (List ℕ)) where
  pub kept : (s : State K) (h : History K) → Going kind unopened s h → (blows : ℕ → Blow) → ((p : ℕ) → blows p ≡ blow.Undrawn)
      → Kept kind unopened s (record { history = h; blows = blows })
  kept s h g blows none = record {
    going = record { allowed = g.allowed; quiet = g.quiet; due = g.due; is = refl };
    is = g.is ∙ sym (undrawn_same kind h g.allowed.size unopened) ∙ (λ j. with_blows (λ p. sym (none p) j) (state_by kind h unopened));
    fresh = λ _. none;
  }

  module _ (s : State K) (c : Log K) (k : Kept kind unopened s c) where
    pub base_over : is_over (state_by kind c.history unopened) ≡ is_over s
    base_over = sym (ap is_over k.is ∙ over_same c.blows (state_by kind c.history unopened))

    -- while nobody rings it is the state of the history
    module _ (still : is_over s ≡ false) where
      pub none_drawn : (p : ℕ) → c.blows p ≡ blow.Undrawn
      none_drawn = k.fresh (base_over ∙ still)

      pub going_now : Going kind unopened s c.history
      going_now = record {
        allowed = k.going.allowed;
        quiet = k.going.quiet;
        due = k.going.due;
        is = k.is ∙ (λ j. with_blows (λ p. none_drawn p j) (state_by kind c.history unopened)) ∙ undrawn_same kind c.history k.going.allowed.size unopened;
      }
