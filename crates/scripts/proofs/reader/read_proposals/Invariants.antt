use Rattle.std.proofs.Common.{◌≡◌, take, Ok}
use Rattle.scripts.specs.ScriptReading.{read_several, proposal_at}
use Rattle.scripts.proofs.reader.read_proposals.Given as goal

abbrev pub invariant-loop-place : goal.invariant-loop-place
invariant-loop-place g l =
    let kind = g.K.Proposal.kind in
    read_several (λ _. proposal_at kind l.bytes) l.place-index l.at ≡ Ok (take l.place-index l.places, l.next)
