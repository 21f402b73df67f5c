-- The strike orders in hand: a slot for each box. To be believed for the promise.
use Rattle.std.specs.Prelude.{◌≡◌, ℕ, ◌<◌, Bool, true, false, if◌then◌else◌, not, ◌&&◌, List, length, get_or, set, Some, None, Option, option_map, Ok, Err, Result, IfErr, ◌==◌}
use Rattle.std.specs.Bool.{⊤}
use Rattle.base.specs.declared.refusal.Refusal.{Refusal}
use Rattle.base.specs.declared.refused.Refused.{Refused}
use Rattle.sets.specs.declared.box_number.BoxNumber.{BoxNumber}
use Rattle.sets.specs.declared.round_number.RoundNumber.{RoundNumber}
use Rattle.machine.specs.declared.place.Blow.{Blow}
use Rattle.machine.specs.declared.place.Blow.TheVariants as blow
use Rattle.base.specs.Numbered.{by_number, any_numbered}
use Rattle.machine.specs.Places.{PlaceState, at_rest, down, rung, is_out}
use Rattle.ringing.specs.declared.strike.StrikeOrder.{StrikeOrder}

-- the round of the order of a box that stands so, if it is out
abbrev pub round_out : {K : Type 0} → PlaceState K → Option RoundNumber
round_out (at_rest b) = None
round_out (down r) = None
round_out (rung x) = if is_out x.blow then Some x.round else None

-- the order of the box at place p, if it is out; and those of a row
abbrev pub order_out : {K : Type 0} → ℕ → PlaceState K → Option StrikeOrder
order_out p x = option_map (λ r. record { number = record { 0 = p }; round = r }) (round_out x)

unfoldable pub orders_out : {K : Type 0} → List (PlaceState K) → List (Option StrikeOrder)
orders_out row = by_number order_out row

-- it is the order of box p and round r
abbrev pub is_order : ℕ → RoundNumber → Option StrikeOrder → Bool
is_order p r None = false
is_order p r (Some o) = o.number.0 == p && o.round.0 == r.0

-- what the slot of box p holds; nothing past the last slot
abbrev pub slot_at : List (Option StrikeOrder) → BoxNumber → Option StrikeOrder
slot_at orders p = get_or orders p.0 None

-- the order of box p and round r, if it lies in p's slot
abbrev pub order_in_hand : BoxNumber → RoundNumber → List (Option StrikeOrder) → Option StrikeOrder
order_in_hand p r orders = if is_order p.0 r (slot_at orders p) then slot_at orders p else None

-- the slots once that order is taken out
abbrev pub orders_without : BoxNumber → RoundNumber → List (Option StrikeOrder) → List (Option StrikeOrder)
orders_without p r orders = set orders p.0 (if is_order p.0 r (slot_at orders p) then None else slot_at orders p)

-- both slots are empty, or hold orders of the same box and round
abbrev pub same_order : Option StrikeOrder → Option StrikeOrder → Bool
same_order None None = true
same_order None (Some o) = false
same_order (Some o) x = is_order o.number.0 o.round x

-- there are as many slots as places, and each holds just the order of its box, if that is out
unfoldable pub are_out : {K : Type 0} → List (PlaceState K) → List (Option StrikeOrder) → Bool
are_out row orders =
    length row == length orders
    && not (any_numbered (λ p x. not (same_order (order_out p x) (get_or orders p None))) row)

-- ---- giving back

-- the blow that is reported
abbrev pub report_blow : Bool → Blow
report_blow true = blow.Struck
report_blow false = blow.Missed

-- an order that is refused is put back into its slot
abbrev pub orders_put_back : Result ⊤ (Refused StrikeOrder Refusal) → List (Option StrikeOrder) → List (Option StrikeOrder)
orders_put_back (Ok _) orders = orders
orders_put_back (Err e) orders = set orders e.value.number.0 (Some e.value)

-- where an order is refused, its slot is there and free
abbrev pub HasFreeSlot : Result ⊤ (Refused StrikeOrder Refusal) → List (Option StrikeOrder) → Type 0
HasFreeSlot r orders = IfErr r (λ e. (e.value.number.0 < length orders) × (get_or orders e.value.number.0 None ≡ None))
