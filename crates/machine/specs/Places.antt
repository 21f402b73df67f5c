-- What stands at a place of a row, by what a box there holds, and what is told of it. To be believed for the promise.
use Rattle.std.specs.Prelude.{ℕ, Bool, true, false, List, codes, Some, None, Option}
use Rattle.sets.specs.declared.round_number.RoundNumber.{RoundNumber}
use Rattle.boxes.specs.declared.states.Held.{Held}
use Rattle.boxes.specs.BoxRounds.{Outcome, rests, rings}
use Rattle.machine.specs.declared.place.Blow.{Blow}
use Rattle.machine.specs.declared.place.Blow.TheVariants as blow
use Rattle.machine.specs.declared.place.Rung.{Rung}
use Rattle.machine.specs.declared.place.Place.{Place}
use Rattle.machine.specs.declared.place.Place.TheVariants as place
use Rattle.machine.specs.declared.place.Standing.{Standing}
use Rattle.machine.specs.declared.place.Standing.TheVariants as standing

-- a box at rest with what it holds, one that is down since a round, or one that rings
pub data PlaceState (K : Type 0) : Type 0 where
  at_rest : Held K → PlaceState K
  down : RoundNumber → PlaceState K
  rung : Rung K → PlaceState K

-- what stands at a place
abbrev pub place_state : {K : Type 0} → Place K → PlaceState K
place_state (place.Resting b) = at_rest b.held
place_state (place.Down r) = down r
place_state (place.Rung x) = rung x

-- what stands for a box that has closed a round: it is at rest, or rings, and no strike order of it was drawn
abbrev pub state_of_outcome : {K : Type 0} → Outcome K → PlaceState K
state_of_outcome (rests b) = at_rest b
state_of_outcome (rings r v) = rung (record { round = r; proposal = v; blow = blow.Undrawn })

-- what is told of the box there
abbrev pub standing_of : {K : Type 0} → PlaceState K → Standing K
standing_of (at_rest b) = standing.Up
standing_of (down r) = standing.Down r
standing_of (rung x) = standing.Rung x

-- how the box there rings, if it does
abbrev pub rung_of : {K : Type 0} → PlaceState K → Option (Rung K)
rung_of (at_rest b) = None
rung_of (down r) = None
rung_of (rung x) = Some x

-- what stands there, where the blow is b. A box that does not ring has none
abbrev pub with_its_blow : {K : Type 0} → Blow → PlaceState K → PlaceState K
with_its_blow b (at_rest h) = at_rest h
with_its_blow b (down r) = down r
with_its_blow b (rung x) = rung (record x { blow = b })

-- no strike order was drawn yet
abbrev pub is_undrawn : Blow → Bool
is_undrawn blow.Undrawn = true
is_undrawn blow.Out = false
is_undrawn blow.Struck = false
is_undrawn blow.Missed = false

-- one was, and is out
abbrev pub is_out : Blow → Bool
is_out blow.Undrawn = false
is_out blow.Out = true
is_out blow.Struck = false
is_out blow.Missed = false

-- ---- word, round and proposal of what is told

-- the word for a blow
abbrev pub blow_word : Blow → List ℕ
blow_word blow.Undrawn = codes "rings"
blow_word blow.Out = codes "out"
blow_word blow.Struck = codes "struck"
blow_word blow.Missed = codes "missed"

-- the word for what is told
abbrev pub standing_word : {K : Type 0} → Standing K → List ℕ
standing_word standing.Up = codes "up"
standing_word (standing.Down r) = codes "down"
standing_word (standing.Rung x) = blow_word x.blow

-- the round in which the box fell or rings
abbrev pub round_of : {K : Type 0} → Standing K → Option RoundNumber
round_of standing.Up = None
round_of (standing.Down r) = Some r
round_of (standing.Rung x) = Some x.round

-- the proposal on which it rings
abbrev pub proposal_of : {K : Type 0} → Standing K → Option K
proposal_of standing.Up = None
proposal_of (standing.Down r) = None
proposal_of (standing.Rung x) = Some x.proposal
