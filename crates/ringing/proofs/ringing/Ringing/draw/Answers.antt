use Rattle.std.proofs.Common.{refl, sym, ap, ◌∙◌}
use Rattle.machine.specs.OrderCalls.{state_after_draw}
use Rattle.base.specs.Results.{or_kept}
use Rattle.ringing.specs.RingingStates.{state_of}
use Rattle.ringing.proofs.BlowWritten.{drawn_state, drawn_told}
use Rattle.ringing.proofs.ringing.Ringing.draw.Goals as goal

pub returns-clause-steps : goal.returns-clause-steps
returns-clause-steps g c =
    let r = c.args.self.now in
    let s = state_of r c.args.row.now in
    let is = drawn_state s c.args.p c.in_ok-round.round c.in_ok-round.ensures in
    (ap drawn_told (sym is), (λ j. record s { row = c.set_blow.ensures s refl j }) ∙ sym (ap (λ x. or_kept s (state_after_draw x)) is))
