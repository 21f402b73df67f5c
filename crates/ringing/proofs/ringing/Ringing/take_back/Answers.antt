use Rattle.std.proofs.Common.{refl, sym, ap, ◌∙◌}
use Rattle.base.specs.Results.{or_kept}
use Rattle.ringing.specs.OrderAnswers.{report_answer}
use Rattle.ringing.specs.RingingStates.{state_of}
use Rattle.ringing.proofs.BlowWritten.{reported_ok, reported_not}
use Rattle.ringing.proofs.ringing.Ringing.take_back.Goals as goal

pub returns-in-Ok-clause-answer : goal.returns-in-Ok-clause-answer
returns-in-Ok-clause-answer g c =
    let r = c.args.self.now in
    let s = state_of r c.args.row.now in
    sym (ap (report_answer c.args.order) (reported_ok s c.args.order.number c.args.blow c.args.order.round (c.in-Ok.ensures c.args.blow)))

pub returns-in-Ok-clause-state : goal.returns-in-Ok-clause-state
returns-in-Ok-clause-state g c =
    let r = c.args.self.now in
    let s = state_of r c.args.row.now in
    (λ j. record s { row = c.set_blow.ensures s refl j })
    ∙ sym (ap (or_kept s) (reported_ok s c.args.order.number c.args.blow c.args.order.round (c.in-Ok.ensures c.args.blow)))

pub returns-in-Err-clause-answer : goal.returns-in-Err-clause-answer
returns-in-Err-clause-answer g c =
    let r = c.args.self.now in
    let s = state_of r c.args.row.now in
    sym (ap (report_answer c.args.order) (reported_not s c.args.order.number c.args.blow c.args.order.round c.in-Err.fault (c.in-Err.ensures c.args.blow)))

pub returns-in-Err-clause-state : goal.returns-in-Err-clause-state
returns-in-Err-clause-state g c =
    let r = c.args.self.now in
    let s = state_of r c.args.row.now in
    sym (ap (or_kept s) (reported_not s c.args.order.number c.args.blow c.args.order.round c.in-Err.fault (c.in-Err.ensures c.args.blow)))
