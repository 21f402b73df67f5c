use Rattle.std.proofs.Common.{◌≡◌, ℕ, map, None}
use Rattle.machine.specs.Places.{place_state}
use Rattle.machine.specs.State.{State}
use Rattle.machine.specs.MachineLaws.{RefusesNothing}
use Rattle.ringing.proofs.PostOneByOne.{posted_below}
use Rattle.ringing.proofs.exchange.post_frames.Given as goal

abbrev pub invariant-loop-place : goal.invariant-loop-place
invariant-loop-place g l =
    let kind = g.K.Proposal.kind in
    (s : State g.row.K.Denot) → s.wire ≡ g.W.Wire.meaning l.fn.wire → s.row ≡ map place_state l.row → (goes : RefusesNothing kind s) → (none : (q : ℕ) → s.wire.posted q ≡ None)
    → g.W.Wire.meaning l.wire ≡ posted_below kind s goes none l.place-index
