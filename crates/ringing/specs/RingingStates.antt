-- A ringing with the row that is handed to it, as a state of the machine. To be believed for the promise.
use Rattle.std.specs.Prelude.{ℕ, List, map}
use Rattle.wire.specs.declared.wire.Wire.{Ghosts}
use Rattle.wire.specs.WireState.{WireState}
use Rattle.machine.specs.declared.place.Place.{Place}
use Rattle.machine.specs.Places.{place_state}
use Rattle.machine.specs.State.{State}
use Rattle.ringing.specs.declared.ringing.Ringing.{Ringing}

-- by its parts: the meaning of the wire, how many boxes may fall, how many rounds are closed, and the row. Contracts say `state_of`
abbrev pub state : {K : Type 0} → WireState → ℕ → ℕ → List (Place K) → State K
state m t closed row = record { wire = m; t = t; closed = closed; row = map place_state row }

-- a ringing with this row
abbrev pub state_of : {W : Type 0} {wires : Ghosts W} {K : Type 0} → Ringing W wires → List (Place K) → State K
state_of {W} {wires} ringing row = state (wires.meaning ringing.wire) ringing.t ringing.closed row
