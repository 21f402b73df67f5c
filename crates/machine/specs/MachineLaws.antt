-- What holds of a ringing with its row. To be believed for the promise.
use Rattle.std.specs.Prelude.{◌≡◌, ℕ, ◌<◌, ◌≤◌, true, false, List, length, map, Some, None, Ok, Err, option_map}
use Rattle.std.specs.List.{slice_get}
use Rattle.base.specs.declared.refusal.Refusal.TheVariants.{Row}
use Rattle.base.specs.Limits.{most_company}
use Rattle.sets.specs.declared.box_number.BoxNumber.{BoxNumber}
use Rattle.sets.specs.declared.round_number.RoundNumber.{RoundNumber}
use Rattle.sets.specs.declared.set.BoxSet.{BoxSet}
use Rattle.sets.specs.Companies.{is_company}
use Rattle.sets.specs.Masks.{member}
use Rattle.proposals.specs.Kinds.{Kind}
use Rattle.boxes.specs.Frame.{Frame}
use Rattle.boxes.specs.Frames.{frame_bytes, longest_frame}
use Rattle.boxes.specs.declared.states.Held.{Held}
use Rattle.boxes.specs.declared.states.Notes.{Notes}
use Rattle.boxes.specs.Boxes.{frame_of}
use Rattle.boxes.specs.BoxRounds.{notes_with, on_hear}
use Rattle.boxes.specs.ByFrames.{close_by_frames, outcome_by_frames}
use Rattle.wire.specs.WireState.{WireState, IsWellFormed, with_posted, on_post, on_fetch}
use Rattle.machine.specs.declared.place.Blow.{Blow}
use Rattle.machine.specs.declared.place.Place.{Place}
use Rattle.machine.specs.declared.place.Rung.{Rung}
use Rattle.machine.specs.Places.{at_rest, down, rung, place_state}
use Rattle.machine.specs.State.{State, gone_count}
use Rattle.machine.specs.MakeCall.{first_row, on_make}
use Rattle.machine.specs.RowCheck.{bad_row, is_over}
use Rattle.machine.specs.FallCall.{on_fall}
use Rattle.machine.specs.RoundCall.{on_round, frames_heard_by, wire_in_round}
use Rattle.machine.specs.OrderCalls.{on_draw, on_report}
use Rattle.machine.specs.AskCall.{on_ask}

-- a row is determined by what stands at its places
abbrev pub RowIsDetermined : Type 0 → Type 0
RowIsDetermined K = (xs ys : List (Place K)) → map place_state xs ≡ map place_state ys → xs ≡ ys

-- where n and t are those of a company, there are n places and n proposals, and the wire joins n boxes, all up and none falling, a ringing
-- is made
abbrev pub MakeIsAccepted : Type 0 → Type 0
MakeIsAccepted K = (n t : ℕ) (m : WireState) (places : ℕ) (proposals : List K) → is_company n t ≡ true
    → places ≡ n → length proposals ≡ n → m.n ≡ n → ((q : ℕ) → q < n → (member m.up q ≡ true) × (m.lost q ≡ None))
    → on_make n t m places proposals ≡ Ok (record { wire = m; t = t; closed = 0; row = first_row n t proposals })

-- a row that is refused is so by every call on a ringing, whatever else is wrong
abbrev pub BadRowIsFirst : {K : Type 0} → Kind K → Type 0
BadRowIsFirst {K} kind = (s : State K) → bad_row s ≡ true
    → ((q : BoxNumber) (lost : BoxSet) → on_fall q lost s ≡ Err Row)
    × ((room : ℕ) → on_round kind room s ≡ Err Row)
    × ((p : BoxNumber) → on_ask p s ≡ Err Row)
    × ((p : BoxNumber) → on_draw p s ≡ Err Row)
    × ((b : Blow) (p : BoxNumber) (r : RoundNumber) → on_report b p r s ≡ Err Row)

-- one that is not refused has a place for each box of the company: a box that is up is at rest there with its own number, n, t and closed
-- rounds and misses none that is up, or rings in the last closed round; one that is not up is down. And at most t are down or falling
abbrev pub GoodRowMeans : Type 0 → Type 0
GoodRowMeans K = (s : State K) → bad_row s ≡ false
    → (length s.row ≡ s.wire.n)
    × ((p : ℕ) (b : Held K) → slice_get s.row p ≡ Some (at_rest b)
    → (member s.wire.up p ≡ true) × (b.number.0 ≡ p) × (b.n ≡ s.wire.n) × (b.t ≡ s.t) × (b.closed ≡ s.closed)
    × ((q : ℕ) → q < most_company → member b.missing q ≡ true → member s.wire.up q ≡ false))
    × ((p : ℕ) (r : RoundNumber) → slice_get s.row p ≡ Some (down r) → member s.wire.up p ≡ false)
    × ((p : ℕ) (x : Rung K) → slice_get s.row p ≡ Some (rung x) → (member s.wire.up p ≡ true) × (x.round.0 ≡ s.closed) × (1 ≤ s.closed))
    × (gone_count s.wire ≤ s.t)

-- what a round may rely on: there are n places, each box at rest stands at its own place, is of the company and up, and no more than t
-- rounds are closed. A wire with this n and these boxes up, on which the box has not posted, takes its frame; in room for the longest frame
-- each box of the company is given what reaches it; a box hears each frame that reaches it, if it has not heard that sender before; and
-- its tally is not refused
pub record RefusesNothing {K : Type 0} (kind : Kind K) (s : State K) : Type 0 where
  pub places : length s.row ≡ s.wire.n
  pub ahead : s.closed ≤ s.t
  pub own : (p : ℕ) (b : Held K) → slice_get s.row p ≡ Some (at_rest b) → (b.number.0 ≡ p) × (b.n ≡ s.wire.n) × (member s.wire.up p ≡ true)
  pub posts : (p : ℕ) (b : Held K) → slice_get s.row p ≡ Some (at_rest b)
      → (m : WireState) → m.n ≡ s.wire.n → m.up ≡ s.wire.up → m.posted p ≡ None
      → on_post p (frame_bytes kind (frame_of b)) m ≡ Ok (with_posted p (frame_bytes kind (frame_of b)) m)
  pub fetches : (p q room : ℕ) → p < s.wire.n → q < s.wire.n → longest_frame ≤ room
      → on_fetch p q room (wire_in_round kind s) ≡ Ok (option_map (frame_bytes kind) (frames_heard_by s p q))
  pub hears : (p q : ℕ) (b : Held K) (f : Frame K) → slice_get s.row p ≡ Some (at_rest b) → frames_heard_by s p q ≡ Some f
      → (m : Notes K) → member m.heard q ≡ false → on_hear kind b m (frame_bytes kind f) ≡ Ok (notes_with kind m f)
  pub closes : (p : ℕ) (b : Held K) → slice_get s.row p ≡ Some (at_rest b)
      → close_by_frames kind b (frames_heard_by s p) ≡ Ok (outcome_by_frames kind b (frames_heard_by s p))

-- in a round of a row that is not refused, in which no box rings, nothing is refused
abbrev pub RoundRefusesNothing : {K : Type 0} → Kind K → Type 0
RoundRefusesNothing {K} kind = (s : State K) (row : List (Place K)) → s.row ≡ map place_state row
    → IsWellFormed s.wire → is_company s.wire.n s.t ≡ true → bad_row s ≡ false → is_over s ≡ false → RefusesNothing kind s
