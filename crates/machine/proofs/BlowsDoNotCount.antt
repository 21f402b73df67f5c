-- How far blows have come counts for nothing but what is told, drawing and giving back.
use Rattle.std.specs.List.{slice_get}
use Rattle.std.specs.Option.{ok_or}
use Rattle.std.proofs.Common.{◌≡◌, ℕ, Bool, true, false, cond, not, eqb, [], ◌∷◌, Some, None, Ok, Option, option_map, Result, is_ok, sym, refl, ap, ◌∙◌, arith}
use Rattle.std.proofs.lemmas.Bool.Decides.{nat_tests}
use Rattle.base.specs.declared.refusal.Refusal.{Refusal}
use Rattle.base.specs.declared.refusal.Refusal.TheVariants as refusal
use Rattle.base.specs.Refusals.{unless}
use Rattle.base.specs.Results.{◌>>=◌}
use Rattle.base.specs.Numbered.{by_number}
use Rattle.base.proofs.NumberedLemmas.{list_ext, get-by_number, length-by_number, any-by_number, each-by_number, list_none}
use Rattle.sets.specs.declared.box_number.BoxNumber.{BoxNumber}
use Rattle.sets.specs.declared.round_number.RoundNumber.{RoundNumber}
use Rattle.sets.specs.declared.set.BoxSet.{BoxSet}
use Rattle.proposals.specs.Kinds.{Kind}
use Rattle.machine.specs.declared.place.Blow.{Blow}
use Rattle.machine.specs.declared.place.Blow.TheVariants as blow
use Rattle.machine.specs.declared.place.Rung.{Rung}
use Rattle.machine.specs.Places.{PlaceState, at_rest, down, rung, standing_of, rung_of, with_its_blow, is_undrawn, is_out}
use Rattle.machine.specs.State.{State, has_rung}
use Rattle.machine.specs.RowCheck.{is_misplaced, bad_row, is_over, row_verdict}
use Rattle.machine.specs.FallCall.{on_fall}
use Rattle.machine.specs.RoundCall.{on_round}
use Rattle.machine.specs.OrderCalls.{with_blow, with_blows, on_draw, is_out_in, on_report}
use Rattle.machine.specs.AskCall.{on_ask}

module _ {K : Type 0} (blows : ℕ → Blow) (s : State K) where
  abbrev f : ℕ → PlaceState K → PlaceState K
  f q x = with_its_blow (blows q) x

  rung_same : (q : ℕ) (x : PlaceState K) → has_rung (f q x) ≡ has_rung x
  rung_same q (at_rest b) = refl
  rung_same q (down r) = refl
  rung_same q (rung x) = refl

  placed_same : (q : ℕ) (x : PlaceState K) → is_misplaced (with_blows blows s) q (f q x) ≡ is_misplaced s q x
  placed_same q (at_rest b) = refl
  placed_same q (down r) = refl
  placed_same q (rung x) = refl

  -- what stands at a place
  pub blown_at : (p : ℕ) → slice_get (with_blows blows s).row p ≡ option_map (with_its_blow (blows p)) (slice_get s.row p)
  blown_at p = get-by_number f s.row p

  pub over_same : is_over (with_blows blows s) ≡ is_over s
  over_same = each-by_number f has_rung has_rung rung_same s.row

  pub bad_same : bad_row (with_blows blows s) ≡ bad_row s
  unfolding bad_row
  bad_same =
      let len = length-by_number f s.row in
      let fits = any-by_number f (is_misplaced s) (is_misplaced (with_blows blows s)) placed_same s.row in
      grind (arith, nat_tests)

  -- rounds and falls are accepted all the same
  pub playing_same : (kind : Kind K) (room : ℕ) → is_ok (on_round kind room (with_blows blows s)) ≡ is_ok (on_round kind room s)
  unfolding on_round
  playing_same kind room = let b = bad_same in let o = over_same in grind (arith, nat_tests)

  pub telling_same : (q : BoxNumber) (lost : BoxSet) → is_ok (on_fall q lost (with_blows blows s)) ≡ is_ok (on_fall q lost s)
  unfolding on_fall
  telling_same q lost = let b = bad_same in let o = over_same in grind (arith, nat_tests)

  -- one blow more
  pub blow_on : (b : Blow) (p : ℕ) → with_blow b p (with_blows blows s) ≡ with_blows (λ q. cond (eqb q p) b (blows q)) s
  blow_on b p = λ j. record s { row = rows j }
    where
      at : (q : ℕ) (o : Option (PlaceState K)) (t : Bool)
          → option_map (λ x. cond t (with_its_blow b x) x) (option_map (with_its_blow (blows q)) o)
          ≡ option_map (with_its_blow (cond t b (blows q))) o
      at q None t = refl
      at q (Some (at_rest h)) true = refl
      at q (Some (at_rest h)) false = refl
      at q (Some (down r)) true = refl
      at q (Some (down r)) false = refl
      at q (Some (rung x)) true = refl
      at q (Some (rung x)) false = refl

      rows : (with_blow b p (with_blows blows s)).row ≡ (with_blows (λ q. cond (eqb q p) b (blows q)) s).row
      rows = list_ext _ _ (λ q.
          get-by_number (λ q x. cond (eqb q p) (with_its_blow b x) x) (by_number f s.row) q
          ∙ ap (option_map (λ x. cond (eqb q p) (with_its_blow b x) x)) (get-by_number f s.row q)
          ∙ at q (slice_get s.row q) (eqb q p)
          ∙ sym (get-by_number (λ q x. with_its_blow (cond (eqb q p) b (blows q)) x) s.row q))

-- ---- what was checked as an order was drawn, or given back

pub rung_over : {K : Type 0} (s : State K) (p : ℕ) (x : Rung K) → slice_get s.row p ≡ Some (rung x) → is_over s ≡ true
rung_over s p x at = by (is_over s) refl
  where
    by : (t : Bool) → is_over s ≡ t → is_over s ≡ true
    by true is = is
    by false is = absurd (let none : has_rung (rung x) ≡ false = list_none has_rung s.row is p (rung x) at in grind arith)

-- box p rings so, and its order was not drawn; or is out for round r
pub record Undrawn {K : Type 0} (s : State K) (p : ℕ) (r : RoundNumber) (then : State K) : Type 0 where
  pub x : Rung K
  pub there : slice_get s.row p ≡ Some (rung x)
  pub new : is_undrawn x.blow ≡ true
  pub round : r ≡ x.round
  pub is : then ≡ with_blow blow.Out p s

pub record Out {K : Type 0} (s : State K) (b : Blow) (p : ℕ) (r : RoundNumber) (then : State K) : Type 0 where
  pub x : Rung K
  pub there : slice_get s.row p ≡ Some (rung x)
  pub out : is_out x.blow ≡ true
  pub round : x.round.0 ≡ r.0
  pub is : then ≡ with_blow b p s

module _ {K : Type 0} (s : State K) (p : BoxNumber) where
  abbrev drawing_of : Option (PlaceState K) → Result (RoundNumber × State K) Refusal
  drawing_of o = do
    _ ← row_verdict s
    place ← ok_or o refusal.Stranger
    x ← ok_or (rung_of place) refusal.Silent
    unless ((not (is_undrawn x.blow), refusal.Order) ∷ []) (x.round, with_blow blow.Out p.0 s)

  pub was_drawn : (r : RoundNumber) (then : State K) → on_draw p s ≡ Ok (r, then) → Undrawn s p.0 r then
  unfolding on_draw
  was_drawn r then e = by (slice_get s.row p.0) refl e
    where
      by : (o : Option (PlaceState K)) → slice_get s.row p.0 ≡ o → drawing_of o ≡ Ok (r, then) → Undrawn s p.0 r then
      by None at e = absurd (grind arith)
      by (Some (at_rest b)) at e = absurd (grind arith)
      by (Some (down f)) at e = absurd (grind arith)
      by (Some (rung x)) at e = record { x = x; there = at; new = grind arith; round = grind arith; is = grind arith }

  pub was_reported : (b : Blow) (r : RoundNumber) (then : State K) → on_report b p r s ≡ Ok then → Out s b p.0 r then
  unfolding on_report
  was_reported b r then e = by (slice_get s.row p.0) refl e
    where
      by : (o : Option (PlaceState K)) → slice_get s.row p.0 ≡ o
          → unless ((bad_row s, refusal.Row) ∷ (not (is_out_in r o), refusal.Order) ∷ []) (with_blow b p.0 s) ≡ Ok then → Out s b p.0 r then
      by None at e = absurd (grind arith)
      by (Some (at_rest h)) at e = absurd (grind arith)
      by (Some (down f)) at e = absurd (grind arith)
      by (Some (rung x)) at e = record { x = x; there = at; out = grind arith; round = grind (arith, nat_tests); is = grind arith }

  -- and when it is so, where the row is not refused
  abbrev pub undrawn_at : Option (PlaceState K) → Bool
  undrawn_at None = false
  undrawn_at (Some (at_rest b)) = false
  undrawn_at (Some (down f)) = false
  undrawn_at (Some (rung x)) = is_undrawn x.blow

  module _ (good : bad_row s ≡ false) where
    pub draws_ok : is_ok (on_draw p s) ≡ undrawn_at (slice_get s.row p.0)
    unfolding on_draw
    draws_ok = by (slice_get s.row p.0)
      where
        by : (o : Option (PlaceState K)) → is_ok (drawing_of o) ≡ undrawn_at o
        by None = grind arith
        by (Some (at_rest b)) = grind arith
        by (Some (down f)) = grind arith
        by (Some (rung x)) = grind arith

    pub reports_ok : (b : Blow) (r : RoundNumber) → is_ok (on_report b p r s) ≡ is_out_in r (slice_get s.row p.0)
    unfolding on_report
    reports_ok b r = grind arith

    pub asks_ok : on_ask p s ≡ ok_or (option_map standing_of (slice_get s.row p.0)) refusal.Stranger
    unfolding on_ask
    asks_ok = grind arith
