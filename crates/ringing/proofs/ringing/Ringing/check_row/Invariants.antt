use Rattle.std.proofs.Common.{◌≡◌, ℕ, ◌<◌, false, [], Some}
use Rattle.std.specs.List.{slice_get}
use Rattle.machine.specs.declared.place.Place.{Place}
use Rattle.machine.specs.Places.{place_state}
use Rattle.machine.specs.RowCheck.{is_misplaced}
use Rattle.ringing.specs.RingingStates.{state_of}
use Rattle.ringing.proofs.ringing.Ringing.check_row.Given as given

abbrev pub invariant-loop-p : given.invariant-loop-p
invariant-loop-p g l = (k : ℕ) (x : Place g.row.K.Denot) → k < l.p → slice_get l.row k ≡ Some x → is_misplaced (state_of l.self []) k (place_state x) ≡ false
