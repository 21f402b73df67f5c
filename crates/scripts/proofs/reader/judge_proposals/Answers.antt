use Rattle.std.proofs.Common.{◌≡◌, ◌++◌, ◌∷◌, [], Ok, Err, arith}
use Rattle.std.proofs.lemmas.Bool.Decides.{nat_tests}
use Rattle.scripts.specs.ScriptReading.{proposal_at}
use Rattle.scripts.proofs.SeveralRead.{several_more, several_stop}
use Rattle.scripts.proofs.reader.judge_proposals.Goals as goal

pub returns-in_err-end : goal.returns-in_err-end
returns-in_err-end g c =
    let kind = g.K.Proposal.kind in
    let before = c.loop.invariant.0 in
    let is : proposal_at kind c.args.bytes.now c.loop.next ≡ Err c.in_err-end.field-0.0 = grind (arith, c.proposal_at.ensures, c.in_err-end.was) in
    let s = several_stop (λ _. proposal_at kind c.args.bytes.now) c.args.at c.loop.counter c.args.n c.loop.next before c.in_err-end.field-0.0 (omega arith) c.loop.invariant.1 is in
    grind (arith, nat_tests)

pub loop-preserved : goal.loop-preserved
loop-preserved g c =
    let kind = g.K.Proposal.kind in
    let before = c.loop.invariant.0 in
    let is : proposal_at kind c.args.bytes.now c.loop.next ≡ Ok (c.in_ok-end.field-0-0, c.in_ok-end.end) = grind (arith, c.proposal_at.ensures, c.in_ok-end.was) in
    (before ++ (c.in_ok-end.field-0-0 ∷ []), several_more (λ _. proposal_at kind c.args.bytes.now) c.args.at c.loop.counter c.loop.next before (c.in_ok-end.field-0-0, c.in_ok-end.end) c.loop.invariant.1 is)
