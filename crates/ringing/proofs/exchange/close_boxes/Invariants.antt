use Rattle.std.proofs.Common.{◌≡◌, map}
use Rattle.machine.specs.Places.{place_state}
use Rattle.machine.specs.State.{State}
use Rattle.machine.specs.RoundCall.{round_to_come, place_after}
use Rattle.ringing.specs.Exchanges.{InRound}
use Rattle.ringing.proofs.PlaceAfterRound.{Done}
use Rattle.ringing.proofs.exchange.close_boxes.Given as goal

abbrev pub invariant-loop-place : goal.invariant-loop-place
invariant-loop-place g l =
    let kind = g.K.Proposal.kind in
    (s : State g.row.K.Denot) → InRound kind (g.W.Wire.meaning l.wire) s → l.round ≡ round_to_come s → s.row ≡ map place_state l.fn.row
    → Done (place_after kind s) s.row l.place-index l.row
