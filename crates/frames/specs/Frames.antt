-- A frame as bytes: round, sender, missing set and the image of the estimate, in this order. To be believed for frames, and for what a box tells and
-- hears.
use Rattle.std.specs.Prelude.{ℕ, zero, suc, if◌then◌else◌, List, [], ◌∷◌, length, Some, None, Ok, Err, Option, Result, nat_lt}
use Rattle.numbers.specs.Numbers.{numbers_bytes}
use Rattle.frames.specs.declared.fault.Field.TheVariants as field
use Rattle.frames.specs.declared.fault.FrameFault.{FrameFault}
use Rattle.frames.specs.declared.fault.FrameFault.TheVariants.{Number, Image, Surplus}
use Rattle.frames.specs.declared.codec.Head.{Head}
use Rattle.frames.specs.declared.frame.Frame.{Frame}
use Rattle.base.specs.Results.{◌>>=◌, map_fault}
use Rattle.frames.specs.FrameFaults.{read_field}
use Rattle.proposals.specs.Kinds.{Kind}

-- the numbers of a frame
abbrev pub frame_numbers : {K : Type 0} → Kind K → Frame K → List ℕ
frame_numbers kind f = f.round.0 ∷ f.sender.0 ∷ f.missing.mask ∷ kind.image f.estimate

-- the bytes of a frame
abbrev pub frame_bytes : {K : Type 0} → Kind K → Frame K → List ℕ
frame_bytes kind f = numbers_bytes (frame_numbers kind f)

-- no frame that a box of a company sends is longer
abbrev pub longest_frame : ℕ
longest_frame = 24

-- the numbers of an image of some size that begins at a place, and the place behind the last
unfoldable pub read_image : List ℕ → ℕ → ℕ → Result (List ℕ × ℕ) FrameFault
read_image bytes zero place = Ok ([], place)
read_image bytes (suc size) place = do
  number ← map_fault Number (read_field field.Image bytes place)
  rest ← read_image bytes size number.next
  Ok (number.value ∷ rest.0, rest.1)

-- the three numbers in front of the image, and the place behind them
unfoldable pub read_head : List ℕ → Result Head FrameFault
read_head bytes = do
  round ← map_fault Number (read_field field.Round bytes 0)
  sender ← map_fault Number (read_field field.Sender bytes round.next)
  missing ← map_fault Number (read_field field.Set bytes sender.next)
  Ok (record {
    round = record { 0 = round.value };
    sender = record { 0 = sender.value };
    missing = record { mask = missing.value };
    next = missing.next;
  })

-- the proposal that has the image, which begins at a place and ends before another
abbrev pub proposal_or_fault : {K : Type 0} → ℕ → Option K → ℕ → Result (K × ℕ) FrameFault
proposal_or_fault place None end = Err (Image place)
proposal_or_fault place (Some x) end = Ok (x, end)

-- the proposal whose image begins at a place, and the place behind it
unfoldable pub read_proposal : {K : Type 0} → Kind K → List ℕ → ℕ → Result (K × ℕ) FrameFault
read_proposal kind bytes place = do
  image ← read_image bytes kind.size place
  proposal_or_fault place (kind.named image.0) image.1

-- the frame that all the bytes make. Each field is judged when it is reached, and bytes that follow are refused last
abbrev pub read_frame : {K : Type 0} → Kind K → List ℕ → Result (Frame K) FrameFault
read_frame kind bytes = do
  head ← read_head bytes
  estimate ← read_proposal kind bytes head.next
  if nat_lt estimate.1 (length bytes) then Err (Surplus estimate.1)
      else Ok (record { round = head.round; sender = head.sender; missing = head.missing; estimate = estimate.0 })
