-- The faults of a frame: refusal, field and place of each, and how that of a number comes up inside. To be believed for what is refused.
use Rattle.std.specs.Prelude.{ℕ, zero, suc, List, ◌++◌, codes, decimal, Result}
use Rattle.numbers.specs.declared.codec.Decoded.{Decoded}
use Rattle.numbers.specs.declared.codec.NumberFault.{NumberFault}
use Rattle.base.specs.declared.refusal.Refusal.{Refusal}
use Rattle.base.specs.declared.refusal.Refusal.TheVariants as refusal
use Rattle.base.specs.Refusals.{refusal_text}
use Rattle.numbers.specs.Numbers.{read_number}
use Rattle.frames.specs.declared.fault.Field.{Field}
use Rattle.frames.specs.declared.fault.Field.TheVariants as field
use Rattle.frames.specs.declared.fault.FieldFault.{FieldFault}
use Rattle.frames.specs.declared.fault.FrameFault.{FrameFault}
use Rattle.frames.specs.declared.fault.FrameFault.TheVariants.{Number, Image, Surplus}
use Rattle.base.specs.Results.{map_fault}

-- the word of a field
abbrev pub field_word : Field → List ℕ
field_word field.Round = codes "round"
field_word field.Sender = codes "sender"
field_word field.Set = codes "set"
field_word field.Image = codes "image"
field_word field.End = codes "end"

-- the field of a number of the frame, by how many numbers stand before it
abbrev pub field_at : ℕ → Field
field_at zero = field.Round
field_at (suc zero) = field.Sender
field_at (suc (suc zero)) = field.Set
field_at (suc (suc (suc k))) = field.Image

-- why the frame was refused
abbrev pub refusal_of : FrameFault → Refusal
refusal_of (Number f) = f.fault.refusal
refusal_of (Image place) = refusal.Image
refusal_of (Surplus place) = refusal.Surplus

-- the field that is at fault
abbrev pub field_of : FrameFault → Field
field_of (Number f) = f.field
field_of (Image place) = field.Image
field_of (Surplus place) = field.End

-- and the place, from 0, where that begins
abbrev pub place_of : FrameFault → ℕ
place_of (Number f) = f.fault.place
place_of (Image place) = place
place_of (Surplus place) = place

-- the text of a fault: refusal, field and place, with a space between two
abbrev pub fault_text : FrameFault → List ℕ
fault_text e =
    refusal_text (refusal_of e)
    ++ (codes " " ++ (field_word (field_of e)
    ++ (codes " " ++ decimal (place_of e))))

-- the fault of a number in a field
abbrev pub in_field : Field → NumberFault → FieldFault
in_field f e = record { field = f; fault = e }

-- the number of a field, at a place
abbrev pub read_field : Field → List ℕ → ℕ → Result Decoded FieldFault
read_field f bytes place = map_fault (in_field f) (read_number bytes place)
