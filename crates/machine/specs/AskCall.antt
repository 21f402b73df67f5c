-- What is told of a box. To be believed for the promise.
use Rattle.std.specs.Prelude.{option_map, Result}
use Rattle.std.specs.List.{slice_get}
use Rattle.std.specs.Option.{ok_or}
use Rattle.base.specs.declared.refusal.Refusal.{Refusal}
use Rattle.base.specs.declared.refusal.Refusal.TheVariants as refusal
use Rattle.base.specs.Results.{◌>>=◌}
use Rattle.sets.specs.declared.box_number.BoxNumber.{BoxNumber}
use Rattle.machine.specs.declared.place.Standing.{Standing}
use Rattle.machine.specs.Places.{standing_of}
use Rattle.machine.specs.State.{State}
use Rattle.machine.specs.RowCheck.{row_verdict}

module _ {K : Type 0} where
  -- what is told of box p. A row that is not refused has a place for each box of the company, and no other
  unfoldable pub on_ask : BoxNumber → State K → Result (Standing K) Refusal
  on_ask p s = do
    _ ← row_verdict s
    ok_or (option_map standing_of (slice_get s.row p.0)) refusal.Stranger
