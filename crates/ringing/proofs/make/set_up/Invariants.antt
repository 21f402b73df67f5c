use Rattle.std.proofs.Common.{◌≡◌, ℕ, ◌<◌, map, option_map}
use Rattle.std.specs.List.{slice_get}
use Rattle.boxes.specs.Boxes.{first_held}
use Rattle.machine.specs.Places.{at_rest, place_state}
use Rattle.ringing.proofs.make.set_up.Given as given

abbrev pub invariant-loop-p : given.invariant-loop-p
invariant-loop-p g l =
    (k : ℕ) → k < l.p → slice_get (map place_state l.row) k ≡ option_map (λ v. at_rest (first_held (record { 0 = k }) l.n l.t v)) (slice_get l.proposals k)
