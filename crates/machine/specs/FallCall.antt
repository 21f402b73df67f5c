-- Telling a ringing that a box falls. To be believed for the promise.
use Rattle.std.specs.Prelude.{[], ◌∷◌, Result, nat_le}
use Rattle.base.specs.declared.refusal.Refusal.{Refusal}
use Rattle.base.specs.declared.refusal.Refusal.TheVariants as refusal
use Rattle.base.specs.Refusals.{unless}
use Rattle.base.specs.Results.{◌>>=◌}
use Rattle.sets.specs.declared.box_number.BoxNumber.{BoxNumber}
use Rattle.sets.specs.declared.set.BoxSet.{BoxSet}
use Rattle.wire.specs.WireState.{on_fall as wire_on_fall}
use Rattle.machine.specs.State.{State, gone_count}
use Rattle.machine.specs.RowCheck.{going_on_verdict}

module _ {K : Type 0} where
  -- box q falls in the round to come, with a lost set: the row is checked first, then the wire has its say, and then t falls are enough
  unfoldable pub on_fall : BoxNumber → BoxSet → State K → Result (State K) Refusal
  on_fall q lost s = do
    _ ← going_on_verdict s
    m ← wire_on_fall q.0 lost s.wire
    unless ((nat_le s.t (gone_count s.wire), refusal.Spent) ∷ []) (record s { wire = m })
