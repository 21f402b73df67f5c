-- A round as the rule has it: by the frames that a box heard in it, whatever their order. To be believed for boxes, and for the rule.
use Rattle.std.specs.Prelude.{ℕ, Bool, false, if◌then◌else◌, not, ◌&&◌, List, [], ◌∷◌, is_some, Some, None, Option, Result, ◌==◌, nat_lt}
use Rattle.std.specs.List.{find, filter_map}
use Rattle.std.specs.Option.{unwrap_or}
use Rattle.std.specs.Result.{result_ok, result_unwrap_or}
use Rattle.base.specs.declared.refusal.Refusal.{Refusal}
use Rattle.sets.specs.declared.set.BoxSet.{BoxSet}
use Rattle.base.specs.Counts.{any}
use Rattle.sets.specs.Masks.{member, set_of}
use Rattle.proposals.specs.Orders.{foremost}
use Rattle.frames.specs.declared.frame.Frame.{Frame}
use Rattle.frames.specs.Frames.{read_frame}
use Rattle.boxes.specs.declared.states.Held.{Held}
use Rattle.boxes.specs.declared.states.Notes.{Notes}
use Rattle.boxes.specs.Boxes.{next_round, frame_of}
use Rattle.boxes.specs.BoxRounds.{bad_set, on_hear, Outcome, outcome_with, close_with}
use Rattle.proposals.specs.Kinds.{Kind}

-- the frames heard in a round: of each box its frame, or none
abbrev pub HeardFrames : Type 0 → Type 0
HeardFrames K = ℕ → Option (Frame K)

-- whether the frame of a box, if there is one, tells box i missing
abbrev pub tells_missing : {K : Type 0} → Option (Frame K) → ℕ → Bool
tells_missing None i = false
tells_missing (Some f) i = member f.missing i

-- the estimate in it, or d where there is none
abbrev pub estimate_in : {K : Type 0} → K → Option (Frame K) → K
estimate_in d None = d
estimate_in d (Some f) = f.estimate

module _ {K : Type 0} (b : Held K) (h : HeardFrames K) where
  -- the boxes not heard
  abbrev pub boxes_not_heard : BoxSet
  boxes_not_heard = set_of (λ i. nat_lt i b.n && not (is_some (h i)))

  -- the boxes that some box heard tells missing
  abbrev pub boxes_told_missing : BoxSet
  boxes_told_missing = set_of (λ i. any (λ q. tells_missing (h q) i) b.n)

  -- the estimate that goes first among those heard
  abbrev pub first_estimate : Kind K → Option K
  first_estimate kind = foremost kind.leads (λ q. is_some (h q)) (λ q. estimate_in b.estimate (h q)) b.n

-- what the rule says of a box that heard these frames in its next round, its own among them
unfoldable pub close_by_frames : {K : Type 0} → Kind K → Held K → HeardFrames K → Result (Outcome K) Refusal
close_by_frames kind b h =
    close_with b (boxes_not_heard b h) (boxes_told_missing b h) (unwrap_or (first_estimate b h kind) b.estimate)

-- what becomes of it then, where the tally is not refused
unfoldable pub outcome_by_frames : {K : Type 0} → Kind K → Held K → HeardFrames K → Outcome K
outcome_by_frames kind b h =
    outcome_with b (boxes_not_heard b h) (boxes_told_missing b h) (unwrap_or (first_estimate b h kind) b.estimate)

-- that the box may hear the frame in its next round
unfoldable pub admits : {K : Type 0} → Held K → Frame K → Bool
admits b f =
    (f.round.0 == (next_round b).0)
    && nat_lt f.sender.0 b.n
    && not (f.sender.0 == b.number.0)
    && not (member b.missing f.sender.0)
    && not (bad_set b f)

-- that it is of box q besides
abbrev pub is_from : {K : Type 0} → Held K → ℕ → Frame K → Bool
is_from b q f = q == f.sender.0 && admits b f

-- the frames heard in a round in which these came: its own, and of each other box the first that it may hear
unfoldable pub heard_frames : {K : Type 0} → Held K → List (Frame K) → HeardFrames K
heard_frames b came q =
    if q == b.number.0 then Some (frame_of b)
    else find (is_from b q) came

module _ {K : Type 0} (kind : Kind K) where
  -- the frames among bytes that were told one after another
  unfoldable pub frames_in : List (List ℕ) → List (Frame K)
  frames_in told = filter_map (λ bytes. result_ok (read_frame kind bytes)) told

  -- the notes after these bytes, accepted or refused
  unfoldable pub notes_after : Held K → Notes K → List (List ℕ) → Notes K
  notes_after b m [] = m
  notes_after b m (bytes ∷ more) = notes_after b (result_unwrap_or (on_hear kind b m bytes) m) more
