use Rattle.std.proofs.Common.{◌≡◌, ℕ, ◌<◌, true, get_or, Some, None}
use Rattle.std.specs.List.{slice_get}
use Rattle.machine.specs.declared.place.Place.{Place}
use Rattle.machine.specs.Places.{place_state}
use Rattle.call_lists.specs.OrdersInHand.{order_out, same_order}
use Rattle.call_lists.proofs.hand.are_out.Given as given

abbrev pub invariant-loop-p : given.invariant-loop-p
invariant-loop-p g l = (k : ℕ) (x : Place g.row.K.Denot) → k < l.p → slice_get l.row k ≡ Some x → same_order (order_out k (place_state x)) (get_or l.orders k None) ≡ true
