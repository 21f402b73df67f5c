-- Orders that are given back at the end. Assumes nothing.
use Rattle.std.specs.Prelude.{◌≡◌, ℕ, true, false, List, get_or, Some, None, Ok, Option}
use Rattle.std.specs.List.{slice_get}
use Rattle.machine.specs.declared.place.Blow.TheVariants as blow
use Rattle.machine.specs.State.{State}
use Rattle.machine.specs.RowCheck.{bad_row}
use Rattle.machine.specs.OrderCalls.{with_blow, is_out_in, on_report}
use Rattle.ringing.specs.declared.strike.StrikeOrder.{StrikeOrder}

-- the order of a slot, if it holds one, is taken back as missed
abbrev pub IsTakenBack : {K : Type 0} → State K → Option StrikeOrder → Type 0
IsTakenBack s slot = (o : StrikeOrder) → slot ≡ Some o → on_report blow.Missed o.number o.round s ≡ Ok (with_blow blow.Missed o.number.0 s)

-- the state then
abbrev pub orders_returned : {K : Type 0} → Option StrikeOrder → State K → State K
orders_returned None s = s
orders_returned (Some o) s = with_blow blow.Missed o.number.0 s

-- the slot of box p holds nothing, or its order, which is out in a row that is not refused; and so of each slot
abbrev pub IsReady : {K : Type 0} → State K → ℕ → Option StrikeOrder → Type 0
IsReady s p x = (o : StrikeOrder) → x ≡ Some o → (o.number.0 ≡ p) × (bad_row s ≡ false) × (is_out_in o.round (slice_get s.row p) ≡ true)

abbrev pub AreReady : {K : Type 0} → State K → List (Option StrikeOrder) → Type 0
AreReady s orders = (p : ℕ) → IsReady s p (get_or orders p None)
