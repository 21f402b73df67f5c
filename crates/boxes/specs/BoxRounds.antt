-- A round of a box: what it notes as it opens it, which frames it hears, and what it closes to. To be believed for boxes.
use Rattle.std.specs.Prelude.{ℕ, ◌+◌, ◌-◌, min, ⊤, Bool, if◌then◌else◌, not, ◌&&◌, ◌||◌, List, [], ◌∷◌, Some, Ok, Result, ◌==◌, nat_eq, nat_le, nat_lt}
use Rattle.base.specs.declared.refusal.Refusal.{Refusal}
use Rattle.base.specs.declared.refusal.Refusal.TheVariants as refusal
use Rattle.base.specs.Refusals.{unless}
use Rattle.sets.specs.declared.round_number.RoundNumber.{RoundNumber}
use Rattle.sets.specs.declared.set.BoxSet.{BoxSet}
use Rattle.base.specs.Counts.{any, count}
use Rattle.base.specs.Limits.{most_company}
use Rattle.sets.specs.Masks.{member, set_of}
use Rattle.proposals.specs.Orders.{preferred}
use Rattle.frames.specs.declared.fault.FrameFault.{FrameFault}
use Rattle.frames.specs.declared.frame.Frame.{Frame}
use Rattle.base.specs.Results.{◌>>=◌, map_fault}
use Rattle.frames.specs.Frames.{read_frame}
use Rattle.boxes.specs.declared.fault.RoundFault.{RoundFault}
use Rattle.boxes.specs.declared.fault.OwnFault.{OwnFault}
use Rattle.boxes.specs.declared.fault.BoxFault.{BoxFault}
use Rattle.boxes.specs.declared.fault.BoxFault.TheVariants as fault
use Rattle.boxes.specs.declared.states.Held.{Held}
use Rattle.boxes.specs.declared.states.Notes.{Notes}
use Rattle.boxes.specs.declared.states.Closed.{Closed}
use Rattle.boxes.specs.declared.states.Closed.TheVariants.{Rests, Rings}
use Rattle.boxes.specs.Boxes.{next_round}
use Rattle.proposals.specs.Kinds.{Kind}

-- the fault of a frame, and a refusal by the box itself, in the open round
abbrev pub round_fault : {K : Type 0} → Held K → FrameFault → RoundFault
round_fault b e = record { round = next_round b; fault = e }

abbrev pub own_fault : {K : Type 0} → Held K → Refusal → OwnFault
own_fault b e = record { round = next_round b; refusal = e }

-- the same as faults of the box
abbrev pub frame_refusal : {K : Type 0} → Held K → FrameFault → BoxFault
frame_refusal b e = fault.Frame (round_fault b e)

abbrev pub box_refusal : {K : Type 0} → Held K → Refusal → BoxFault
box_refusal b e = fault.Own (own_fault b e)

-- ---- hearing

-- as it opens a round a box has heard itself
abbrev pub open_notes : {K : Type 0} → Held K → Notes K
open_notes b = record { heard = set_of (λ i. nat_eq i b.number.0); known = b.missing; foremost = b.estimate }

-- that the frame's set has a box that is none of the company's, or the sender or the hearer
unfoldable pub bad_set : {K : Type 0} → Held K → Frame K → Bool
bad_set b f =
    any (λ i. member f.missing i && nat_le b.n i) most_company
    || member f.missing f.sender.0
    || member f.missing b.number.0

-- the faults that a frame can have for the box, in the order in which they count
abbrev pub faults : {K : Type 0} → Held K → Notes K → Frame K → List (Bool × Refusal)
faults b m f =
    (not (f.round.0 == (next_round b).0), refusal.OffBeat)
    ∷ (nat_le b.n f.sender.0, refusal.Stranger)
    ∷ (member m.heard f.sender.0, refusal.Heard)
    ∷ (member b.missing f.sender.0, refusal.Down)
    ∷ (bad_set b f, refusal.Set)
    ∷ []

-- whether the box refuses the frame, and why
unfoldable pub frame_verdict : {K : Type 0} → Held K → Notes K → Frame K → Result ⊤ Refusal
frame_verdict b m f = unless (faults b m f) tt

module _ {K : Type 0} (kind : Kind K) where
  -- the notes with one frame more
  abbrev pub notes_with : Notes K → Frame K → Notes K
  notes_with m f = record {
    heard = set_of (λ i. member m.heard i || i == f.sender.0);
    known = set_of (λ i. member m.known i || member f.missing i);
    foremost = preferred kind.leads (Some m.foremost) f.estimate;
  }

  -- the notes after some bytes were told, or why they are refused
  unfoldable pub on_hear : Held K → Notes K → List ℕ → Result (Notes K) BoxFault
  on_hear b m bytes = do
    f ← map_fault (frame_refusal b) (read_frame kind bytes)
    _ ← map_fault (box_refusal b) (frame_verdict b m f)
    Ok (notes_with m f)

-- ---- closing

-- what becomes of a box that closes a round: it rests, or it rings in a round on a proposal
pub data Outcome (K : Type 0) : Type 0 where
  rests : Held K → Outcome K
  rings : RoundNumber → K → Outcome K

-- what a closed box shows of that
abbrev pub outcome : {K : Type 0} → Closed K → Outcome K
outcome (Rests b) = rests b.held
outcome (Rings round proposal) = rings round proposal

-- a box's best horizon after its next round, where it knows the boxes of the set F missing
abbrev pub best_horizon : {K : Type 0} → Held K → (F : BoxSet) → ℕ
best_horizon b F = min b.horizon.0 (b.closed + 1 + b.t - count (member F) most_company)

-- its values after that round, where it did not hear the boxes of the set N and holds an estimate
abbrev pub held_next : {K : Type 0} → Held K → (N F : BoxSet) → K → Held K
held_next b N F estimate = record {
  number = b.number;
  n = b.n;
  t = b.t;
  closed = b.closed + 1;
  estimate = estimate;
  missing = N;
  horizon = record { 0 = best_horizon b F };
}

-- what becomes of it in that round: it rings on the estimate if the round is its best horizon, and rests if not
abbrev pub outcome_with : {K : Type 0} → Held K → (N F : BoxSet) → K → Outcome K
outcome_with b N F estimate =
    if best_horizon b F == (next_round b).0 then rings (next_round b) estimate
    else rests (held_next b N F estimate)

-- how it closes that round: the tally is refused where N has more than t boxes, or F one that is not in N
unfoldable pub close_with : {K : Type 0} → Held K → (N F : BoxSet) → K → Result (Outcome K) Refusal
close_with b N F estimate =
    unless
    ((nat_lt b.t (count (member N) most_company) || any (λ i. member F i && not (member N i)) most_company, refusal.Tally) ∷ [])
    (outcome_with b N F estimate)

-- the boxes of the company that were not heard
abbrev pub unheard_boxes : {K : Type 0} → Held K → Notes K → BoxSet
unheard_boxes b m = set_of (λ i. nat_lt i b.n && not (member m.heard i))

-- what becomes of a listening box that closes its round, or why it is refused
unfoldable pub on_close : {K : Type 0} → Held K → Notes K → Result (Outcome K) BoxFault
on_close b m = map_fault (box_refusal b) (close_with b (unheard_boxes b m) m.known m.foremost)
