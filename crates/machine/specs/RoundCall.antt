-- A round of a ringing. To be believed for the promise.
use Rattle.std.specs.Prelude.{ℕ, ◌+◌, if◌then◌else◌, [], ◌∷◌, is_some, Some, None, Option, option_map, Result, nat_lt}
use Rattle.std.specs.List.{slice_get}
use Rattle.base.specs.declared.refusal.Refusal.{Refusal}
use Rattle.base.specs.declared.refusal.Refusal.TheVariants as refusal
use Rattle.base.specs.Refusals.{unless}
use Rattle.base.specs.Numbered.{by_number}
use Rattle.sets.specs.declared.round_number.RoundNumber.{RoundNumber}
use Rattle.sets.specs.Masks.{member}
use Rattle.proposals.specs.Kinds.{Kind}
use Rattle.boxes.specs.Frame.{Frame}
use Rattle.boxes.specs.Frames.{frame_bytes, longest_frame}
use Rattle.boxes.specs.Boxes.{frame_of}
use Rattle.boxes.specs.ByFrames.{HeardFrames, outcome_by_frames}
use Rattle.wire.specs.WireState as wire
use Rattle.wire.specs.WireState.{WireState, is_lost, on_fall as wire_on_fall}
use Rattle.machine.specs.Places.{PlaceState, at_rest, down, rung, state_of_outcome}
use Rattle.machine.specs.State.{State, hears_on}
use Rattle.machine.specs.RowCheck.{bad_row, is_over}

module _ {K : Type 0} where
  -- what a box sends of which this stands at its place: a frame if it is at rest
  abbrev pub frame_at : Option (PlaceState K) → Option (Frame K)
  frame_at (Some (at_rest b)) = Some (frame_of b)
  frame_at o = None

  -- what box q sends
  abbrev pub sent_frame : State K → ℕ → Option (Frame K)
  sent_frame s q = frame_at (slice_get s.row q)

  -- the frames that box p hears: of each box that it hears what that one sends
  abbrev pub frames_heard_by : State K → ℕ → HeardFrames K
  frames_heard_by s p q = if hears_on s.wire p q then sent_frame s q else None

  -- the round to come, or open
  abbrev pub round_to_come : State K → RoundNumber
  round_to_come s = record { 0 = s.closed + 1 }

  -- the wire in the round: each box that is up has posted its frame
  abbrev pub wire_in_round : Kind K → State K → WireState
  wire_in_round kind s = record s.wire {
    posted = λ q. (if member s.wire.up q then option_map (frame_bytes kind) (sent_frame s q) else None);
  }

  module _ (kind : Kind K) where
    -- what the round makes of what stands at place p: a box at rest that falls in it is then down, and any other at rest closes it by the
    -- frames that it hears; one that is down or rings stays
    abbrev pub place_after : State K → ℕ → PlaceState K → PlaceState K
    place_after s p (at_rest b) =
        if is_some (s.wire.lost p)
        then down (round_to_come s)
        else (state_of_outcome (outcome_by_frames kind b (frames_heard_by s p)))
    place_after s p (down r) = down r
    place_after s p (rung x) = rung x

    -- what it makes of the ringing with its row
    abbrev pub state_after_round : State K → State K
    state_after_round s = record {
      wire = wire.on_close (wire_in_round kind s);
      t = s.t;
      closed = s.closed + 1;
      row = by_number (place_after s) s.row;
    }

    -- playing a round with so many line bytes
    unfoldable pub on_round : ℕ → State K → Result (State K) Refusal
    on_round room s =
        unless
        ((bad_row s, refusal.Row)
        ∷ (nat_lt room longest_frame, refusal.Narrow)
        ∷ (is_over s, refusal.Over)
        ∷ [])
        (state_after_round s)
