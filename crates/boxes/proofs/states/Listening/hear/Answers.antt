use Rattle.std.proofs.Common.{◌<◌, refl, arith}
use Rattle.std.proofs.lemmas.Result.{err_from_is_err_and}
use Rattle.std.proofs.lemmas.Bool.Decides.{nat_tests}
use Rattle.sets.proofs.BitLemmas.{bit-mask_of}
use Rattle.boxes.proofs.FirstFault.{refused_by_box}
use Rattle.boxes.proofs.states.Listening.hear.Goals as goal

pub returns-in_err-check : goal.returns-in_err-check
returns-in_err-check g c =
    let p = err_from_is_err_and c.from_residual-in_err-check.result c.from_residual-in_err-check.ensures.1 in
    let b = c.args.self.now.resting.held in
    let m = c.args.self.now.notes in
    let h = refused_by_box g.K.Proposal.kind b m c.args.bytes.now c.in_ok-frame.frame c.in_err-check.field-0.0 c.in_ok-frame.ensures c.in_err-check.ensures in
    rw h (rw (p.1, p.2) record { answer = refl; resting = refl; notes = refl })

pub invariant_of-self : goal.invariant_of-self
invariant_of-self g c =
    let l = c.args.self.now in
    let own = l.itself in
    let room : l.resting.held.number.0 < 32 = omega (arith, l.resting.placed, l.resting.few) in
    record { itself = grind (arith, nat_tests, bit-mask_of) }
