use Rattle.std.proofs.Common.{◌≡◌, length}
use Rattle.frames.specs.Frames.{read_proposal}
use Rattle.frames.proofs.ProposalReading.{read_on}
use Rattle.frames.proofs.codec.read_proposal.Given as goal

abbrev pub invariant-loop : goal.invariant-loop
invariant-loop g l =
    let kind = g.K.Proposal.kind in
    (length l.image.items ≡ l.counter)
    × (read_proposal kind l.bytes l.at ≡ read_on kind l.bytes l.at l.image.items l.counter l.next)
