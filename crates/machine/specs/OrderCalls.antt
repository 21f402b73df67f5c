-- Strike orders, drawn and given back. The plain numbers of one are its box and its round. To be believed for the promise.
use Rattle.std.specs.Prelude.{ℕ, Bool, false, if◌then◌else◌, not, ◌&&◌, [], ◌∷◌, Some, None, Option, Result, ◌==◌}
use Rattle.std.specs.List.{slice_get}
use Rattle.std.specs.Option.{ok_or}
use Rattle.std.specs.Result.{result_map_both}
use Rattle.base.specs.declared.refusal.Refusal.{Refusal}
use Rattle.base.specs.declared.refusal.Refusal.TheVariants as refusal
use Rattle.base.specs.Refusals.{unless}
use Rattle.base.specs.Results.{◌>>=◌}
use Rattle.base.specs.Numbered.{by_number}
use Rattle.sets.specs.declared.box_number.BoxNumber.{BoxNumber}
use Rattle.sets.specs.declared.round_number.RoundNumber.{RoundNumber}
use Rattle.machine.specs.declared.place.Blow.{Blow}
use Rattle.machine.specs.declared.place.Blow.TheVariants as blow
use Rattle.machine.specs.Places.{PlaceState, at_rest, down, rung, rung_of, with_its_blow, is_undrawn, is_out}
use Rattle.machine.specs.State.{State}
use Rattle.machine.specs.RowCheck.{bad_row, row_verdict}

module _ {K : Type 0} where
  -- the state with b for the blow of box p, if it rings
  abbrev pub with_blow : Blow → ℕ → State K → State K
  with_blow b p s = record s { row = by_number (λ q x. if q == p then with_its_blow b x else x) s.row }

  -- the state with these for the blows of all that ring
  abbrev pub with_blows : (ℕ → Blow) → State K → State K
  with_blows blows s = record s { row = by_number (λ q x. with_its_blow (blows q) x) s.row }

  -- drawing the order of box p: it is of the round in which p rings, and then out
  unfoldable pub on_draw : BoxNumber → State K → Result (RoundNumber × State K) Refusal
  on_draw p s = do
    _ ← row_verdict s
    place ← ok_or (slice_get s.row p.0) refusal.Stranger
    x ← ok_or (rung_of place) refusal.Silent
    unless ((not (is_undrawn x.blow), refusal.Order) ∷ []) (x.round, with_blow blow.Out p.0 s)

  -- what stands at a place rings in round r, and its order is out
  abbrev pub is_out_in : RoundNumber → Option (PlaceState K) → Bool
  is_out_in r None = false
  is_out_in r (Some (at_rest b)) = false
  is_out_in r (Some (down f)) = false
  is_out_in r (Some (rung x)) = is_out x.blow && x.round.0 == r.0

  -- the order of box p and round r is given back, and the blow is b: struck or missed
  unfoldable pub on_report : Blow → BoxNumber → RoundNumber → State K → Result (State K) Refusal
  on_report b p r s =
      unless ((bad_row s, refusal.Row) ∷ (not (is_out_in r (slice_get s.row p.0)), refusal.Order) ∷ []) (with_blow b p.0 s)

-- the state after an order was drawn
abbrev pub state_after_draw : {X K : Type 0} → Result (X × State K) Refusal → Result (State K) Refusal
state_after_draw r = result_map_both (λ x. x.1) (λ e. e) r
