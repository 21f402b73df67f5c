use Rattle.std.proofs.Common.{◌≡◌, List, Ok}
use Rattle.scripts.specs.ScriptReading.{read_several, proposal_at}
use Rattle.scripts.proofs.reader.judge_proposals.Given as goal

abbrev pub invariant-loop : goal.invariant-loop
invariant-loop g l =
    let kind = g.K.Proposal.kind in
    (before : List g.row.K.Denot) × (read_several (λ _. proposal_at kind l.bytes) l.counter l.at ≡ Ok (before, l.next))
