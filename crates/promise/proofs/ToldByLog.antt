-- Which calls are accepted, and what is told, by the log.
use Rattle.std.specs.List.{slice_get}
use Rattle.std.specs.Option.{ok_or}
use Rattle.std.proofs.Common.{◌≡◌, ℕ, Bool, true, false, cond, ◌&&◌, eqb, leb, ltb, List, [], ◌∷◌, Some, None, Option, option_map, is_ok, sym, refl, ap, ◌∙◌, subst, arith}
use Rattle.std.proofs.lemmas.Bool.Decides.{nat_tests}
use Rattle.base.specs.declared.refusal.Refusal.TheVariants.{Stranger}
use Rattle.base.specs.Refusals.{unless}
use Rattle.sets.specs.declared.box_number.BoxNumber.{BoxNumber}
use Rattle.sets.specs.declared.round_number.RoundNumber.{RoundNumber}
use Rattle.proposals.specs.Kinds.{Kind}
use Rattle.rule.specs.Falls.{closes}
use Rattle.rule.specs.Histories.{History}
use Rattle.rule.specs.RuleValues as rule
use Rattle.machine.specs.declared.place.Blow.{Blow}
use Rattle.machine.specs.declared.place.Rung.{Rung}
use Rattle.machine.specs.Places.{PlaceState, at_rest, down, rung, standing_of, with_its_blow, is_undrawn, is_out}
use Rattle.machine.specs.State.{State, has_rung}
use Rattle.machine.specs.RowCheck.{bad_row}
use Rattle.machine.specs.OrderCalls.{with_blows, on_draw, is_out_in, on_report}
use Rattle.machine.specs.AskCall.{on_ask}
use Rattle.machine.proofs.BlowsDoNotCount.{undrawn_at, blown_at, bad_same, playing_same, telling_same, draws_ok, reports_ok, asks_ok}
use Rattle.promise.specs.CallLog.{Log}
use Rattle.promise.specs.StateByHistory.{place_by, state_by}
use Rattle.promise.specs.PromiseLaws.{rings_now, FollowsRule}
use Rattle.promise.proofs.StateByPlace.{at_place}
use Rattle.promise.proofs.KeptFromCallToCall.{Going, Kept}
use Rattle.promise.proofs.BlowsBesideHistory.{blown_place}
use Rattle.promise.proofs.AcceptedByHistory.{good, rung_is, rings_are, rounds_are, falls_are}

module _ {K : Type 0} (kind : Kind K) (unopened : ℕ → Option (List ℕ)) (h : History K)
    (g : Going kind unopened (state_by kind h unopened) h)
    (blows : ℕ → Blow) where
  abbrev base : State K
  base = state_by kind h unopened

  abbrev s : State K
  s = with_blows blows base

  pub row_good : bad_row s ≡ false
  row_good = bad_same blows base ∙ good kind unopened h g.allowed g.due

  pub at : (p : ℕ) → slice_get s.row p ≡ cond (ltb p h.n) (Some (with_its_blow (blows p) (place_by kind h p))) None
  at = blown_place kind h g.allowed.size unopened blows

  pub rings_at : (p : ℕ) → has_rung (place_by kind h p) ≡ (closes h.falls p h.closed && rule.rings h p h.closed)
  rings_at = rung_is kind unopened h g.allowed g.due

  -- ---- drawing and giving back

  undrawn_is : (p : BoxNumber) (x : PlaceState K)
      → undrawn_at s p (Some (with_its_blow (blows p.0) x)) ≡ (has_rung x && is_undrawn (blows p.0))
  undrawn_is p (at_rest b) = refl
  undrawn_is p (down r) = refl
  undrawn_is p (rung x) = refl

  draws_are : (p : BoxNumber) → is_ok (on_draw p s) ≡ (rings_now h p.0 && is_undrawn (blows p.0))
  draws_are p = draws_ok s p row_good ∙ ap (undrawn_at s p) (at p.0) ∙ by (ltb p.0 h.n)
    where
      by : (t : Bool)
          → undrawn_at s p (cond t (Some (with_its_blow (blows p.0) (place_by kind h p.0))) None)
          ≡ ((t && closes h.falls p.0 h.closed && rule.rings h p.0 h.closed) && is_undrawn (blows p.0))
      by true = undrawn_is p (place_by kind h p.0) ∙ ap (λ t. t && is_undrawn (blows p.0)) (rings_at p.0)
      by false = refl

  -- the round of a box that rings is the last
  rings_so : (p : ℕ) (x : Rung K) → (ltb p h.n ≡ true) → place_by kind h p ≡ rung x → x.round.0 ≡ h.closed
  rings_so p x l e = (rings_are kind unopened h g.allowed g.due p x (base_at ∙ ap Some e)).0
    where
      base_at : slice_get base.row p ≡ Some (place_by kind h p)
      base_at = at_place kind h g.allowed.size p ∙ ap (λ t. cond t (Some (place_by kind h p)) None) l

  reports_are : (b : Blow) (p : BoxNumber) (r : RoundNumber)
      → is_ok (on_report b p r s) ≡ (rings_now h p.0 && is_out (blows p.0) && eqb h.closed r.0)
  reports_are b p r = reports_ok s p row_good b r ∙ ap (is_out_in r) (at p.0) ∙ by (ltb p.0 h.n) refl
    where
      here : (x : PlaceState K) → ltb p.0 h.n ≡ true → place_by kind h p.0 ≡ x
          → is_out_in r (Some (with_its_blow (blows p.0) x)) ≡ (has_rung x && is_out (blows p.0) && eqb h.closed r.0)
      here (at_rest b) l e = refl
      here (down f) l e = refl
      here (rung x) l e = ap (λ k. is_out (blows p.0) && eqb k r.0) (rings_so p.0 x l e)

      by : (t : Bool) → ltb p.0 h.n ≡ t
          → is_out_in r (cond t (Some (with_its_blow (blows p.0) (place_by kind h p.0))) None)
          ≡ ((t && closes h.falls p.0 h.closed && rule.rings h p.0 h.closed) && is_out (blows p.0) && eqb h.closed r.0)
      by true l = here (place_by kind h p.0) l refl ∙ ap (λ t. t && is_out (blows p.0) && eqb h.closed r.0) (rings_at p.0)
      by false l = refl

  -- ---- what stands and is told

  pub rungs : (p : ℕ) (x : Rung K) → slice_get s.row p ≡ Some (rung x)
      → (x.round.0 ≡ h.closed) × (x.proposal ≡ rule.estimate h kind p h.closed) × (x.blow ≡ blows p)
  rungs p x there = by (slice_get base.row p) refl (sym (blown_at blows base p) ∙ there)
    where
      by : (o : Option (PlaceState K)) → slice_get base.row p ≡ o → option_map (with_its_blow (blows p)) o ≡ Some (rung x)
          → (x.round.0 ≡ h.closed) × (x.proposal ≡ rule.estimate h kind p h.closed) × (x.blow ≡ blows p)
      by None is e = absurd (grind arith)
      by (Some (at_rest b)) is e = absurd (grind arith)
      by (Some (down f)) is e = absurd (grind arith)
      by (Some (rung y)) is e =
          let r = rings_are kind unopened h g.allowed g.due p y is in
          let same : record y { blow = blows p } ≡ x = (let f : rung (record y { blow = blows p }) ≡ rung x = cc in cc) in
          (ap (λ z. z.round.0) (sym same) ∙ r.0, ap (λ z. z.proposal) (sym same) ∙ r.1, ap (λ z. z.blow) (sym same))

  told_is : (p : BoxNumber)
      → on_ask p s ≡ unless ((leb h.n p.0, Stranger) ∷ []) (standing_of (with_its_blow (blows p.0) (place_by kind h p.0)))
  told_is p = asks_ok s p row_good ∙ ap (λ o. ok_or (option_map standing_of o) Stranger) (at p.0) ∙ by
    where
      by : ok_or (option_map standing_of (cond (ltb p.0 h.n) (Some (with_its_blow (blows p.0) (place_by kind h p.0))) None)) Stranger
          ≡ unless ((leb h.n p.0, Stranger) ∷ []) (standing_of (with_its_blow (blows p.0) (place_by kind h p.0)))
      by = grind (arith, nat_tests)

  pub by_log : FollowsRule kind unopened s (record { history = h; blows = blows })
  by_log = record {
    allowed = g.allowed;
    quiet = g.quiet;
    is = refl;
    good = row_good;
    rounds = λ room. playing_same blows base kind room ∙ rounds_are kind unopened h g.allowed g.due room;
    falls = λ q lost. telling_same blows base q lost ∙ falls_are kind unopened h g.allowed g.due q lost;
    draws = draws_are;
    reports = reports_are;
    rings = rungs;
    told = told_is;
  }

pub follows : {K : Type 0} (kind : Kind K) (unopened : ℕ → Option (List ℕ)) (s : State K) (c : Log K) → Kept kind unopened s c
    → FollowsRule kind unopened s c
follows kind unopened s c k = subst (λ x. FollowsRule kind unopened x c) (sym k.is) (by_log kind unopened c.history k.going c.blows)
