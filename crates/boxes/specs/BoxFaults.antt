-- The faults of a box: refusal and round of each, and field and place of those that a frame has. To be believed for what is refused.
use Rattle.std.specs.Prelude.{ℕ, List, ◌++◌, Some, None, codes, decimal, Option}
use Rattle.base.specs.declared.refusal.Refusal.{Refusal}
use Rattle.base.specs.Refusals.{refusal_text}
use Rattle.sets.specs.declared.round_number.RoundNumber.{RoundNumber}
use Rattle.frames.specs.declared.fault.Field.{Field}
use Rattle.frames.specs.FrameFaults as frame
use Rattle.boxes.specs.declared.fault.BoxFault.{BoxFault}
use Rattle.boxes.specs.declared.fault.BoxFault.TheVariants.{Frame, Own}

-- why the box refused
abbrev pub refusal_of : BoxFault → Refusal
refusal_of (Frame f) = frame.refusal_of f.fault
refusal_of (Own f) = f.refusal

-- the round that was open
abbrev pub round_of : BoxFault → RoundNumber
round_of (Frame f) = f.round
round_of (Own f) = f.round

-- the field of the frame that is at fault, if the fault is the frame's
abbrev pub field_of : BoxFault → Option Field
field_of (Frame f) = Some (frame.field_of f.fault)
field_of (Own f) = None

-- and the place, from 0, where that begins
abbrev pub place_of : BoxFault → Option ℕ
place_of (Frame f) = Some (frame.place_of f.fault)
place_of (Own f) = None

-- what is at fault, and the open round
abbrev pub in_round_text : List ℕ → RoundNumber → List ℕ
in_round_text fault round = fault ++ (codes " in round " ++ decimal round.0)

-- the text of a fault
abbrev pub fault_text : BoxFault → List ℕ
fault_text (Frame f) = in_round_text (frame.fault_text f.fault) f.round
fault_text (Own f) = in_round_text (refusal_text f.refusal) f.round
