-- What the boxes exchange within a round. For proofs only.
use Rattle.std.specs.Prelude.{◌≡◌, ℕ, if◌then◌else◌, List, Some, None, Option, option_map, Ok, Result}
use Rattle.std.specs.Result.{result_map_both}
use Rattle.base.specs.declared.refusal.Refusal.{Refusal}
use Rattle.sets.specs.Masks.{member}
use Rattle.proposals.specs.Kinds.{Kind}
use Rattle.frames.specs.Frames.{frame_bytes}
use Rattle.boxes.specs.declared.states.Held.{Held}
use Rattle.boxes.specs.declared.states.Notes.{Notes}
use Rattle.boxes.specs.Boxes.{frame_of}
use Rattle.boxes.specs.BoxFaults.{refusal_of}
use Rattle.boxes.specs.BoxRounds.{on_hear}
use Rattle.wire.specs.WireState.{WireState, on_post, heard_frame}
use Rattle.machine.specs.State.{State}
use Rattle.machine.specs.RoundCall.{sent_frame}
use Rattle.machine.specs.MachineLaws.{RefusesNothing}

-- each box that is up has posted its frame, and no other has
abbrev pub HasPosted : {K : Type 0} → Kind K → State K → Type 0
HasPosted kind s =
    (q : ℕ) → s.wire.posted q ≡ (if member s.wire.up q then option_map (frame_bytes kind) (sent_frame s q) else None)

-- the wire is in a round of this state, in which nothing is refused and each box that is up has posted its frame
pub record InRound {K : Type 0} (kind : Kind K) (m : WireState) (s : State K) : Type 0 where
  pub wire : s.wire ≡ m
  pub goes : RefusesNothing kind s
  pub carries : HasPosted kind s

-- a box posts its frame
abbrev pub on_own_post : {K : Type 0} → Kind K → Held K → WireState → Result WireState Refusal
on_own_post kind b m = on_post b.number.0 (frame_bytes kind (frame_of b)) m

-- the notes of a listening box when it is told these bytes, or nothing; or why they are refused
abbrev pub notes_when_told : {K : Type 0} → Kind K → Held K → Notes K → Option (List ℕ) → Result (Notes K) Refusal
notes_when_told kind b notes None = Ok notes
notes_when_told kind b notes (Some bytes) = result_map_both (λ n. n) refusal_of (on_hear kind b notes bytes)

-- the same when it hears box q on this wire
abbrev pub notes_when_hearing : {K : Type 0} → Kind K → WireState → Held K → Notes K → ℕ → Result (Notes K) Refusal
notes_when_hearing kind m b notes q = notes_when_told kind b notes (heard_frame m b.number.0 q)
