use Rattle.std.proofs.Common.{◌≡◌, Some}
use Rattle.std.specs.List.{slice_get}
use Rattle.boxes.proofs.NotesShowFrames.{Shows}
use Rattle.machine.specs.Places.{at_rest}
use Rattle.machine.specs.State.{State}
use Rattle.ringing.specs.Exchanges.{InRound}
use Rattle.ringing.proofs.HearOneByOne.{heard_below}
use Rattle.ringing.proofs.exchange.close_box.Given as goal

abbrev pub invariant-loop-q : goal.invariant-loop-q
invariant-loop-q g l =
    let kind = g.K.Proposal.kind in
    (l.listening.resting ≡ l.b)
    × ((s : State g.row.K.Denot) → InRound kind (g.W.Wire.meaning l.wire) s → slice_get s.row l.b.held.number.0 ≡ Some (at_rest l.b.held)
    → Shows kind l.b l.listening.notes (heard_below s l.b.held.number.0 l.q))
