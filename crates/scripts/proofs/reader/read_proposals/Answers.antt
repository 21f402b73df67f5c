use Rattle.std.proofs.Common.{◌≡◌, Ok, Err, take, arith}
use Rattle.std.proofs.lemmas.Grind.{common_steps}
use Rattle.scripts.specs.ScriptReading.{proposal_at}
use Rattle.scripts.proofs.SeveralRead.{several_more, several_stop}
use Rattle.scripts.proofs.reader.read_proposals.Goals as goal

pub returns-in_err-proposal : goal.returns-in_err-proposal
returns-in_err-proposal g c =
    let kind = g.K.Proposal.kind in
    let l = c.loop-place in
    let e = c.in_err-proposal.field-0.0 in
    let is : proposal_at kind c.args.bytes.now l.next ≡ Err e = grind (arith, c.proposal_at.ensures, c.in_err-proposal.was) in
    let s = several_stop (λ _. proposal_at kind c.args.bytes.now) c.args.at l.place-index _ l.next (take l.place-index l.places) e c.loop-place-test.true l.invariant is in
    grind arith

pub loop-place-preserved : goal.loop-place-preserved
loop-place-preserved g c =
    let kind = g.K.Proposal.kind in
    let l = c.loop-place in
    let x = c.in_ok-proposal.proposal in
    let is : proposal_at kind c.args.bytes.now l.next ≡ Ok (x, c.in_ok-proposal.end) = grind (arith, c.proposal_at.ensures, c.in_ok-proposal.was) in
    let s = several_more (λ _. proposal_at kind c.args.bytes.now) c.args.at l.place-index l.next (take l.place-index l.places) (x, c.in_ok-proposal.end) l.invariant is in
    grind (arith, common_steps)
