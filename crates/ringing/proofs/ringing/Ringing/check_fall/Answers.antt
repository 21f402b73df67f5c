use Rattle.std.proofs.Common.{sym, ◌∙◌, arith}
use Rattle.machine.proofs.CheckedRow.{over_is}
use Rattle.ringing.specs.RingingStates.{state_of}
use Rattle.ringing.proofs.RowRefused.{gone_counted}
use Rattle.ringing.proofs.FallByExit.{is_checked, not_checked, tell_bad, tell_over, answer_refused, answer_spent, answer_ok}
use Rattle.ringing.proofs.ringing.Ringing.check_fall.Goals as goal

pub returns-in_err-check_row : goal.returns-in_err-check_row
returns-in_err-check_row g c =
    let r = c.args.self.now in
    let s = state_of r c.args.row.now in
    let n = not_checked s c.in_err-check_row.field-0.0 c.in_err-check_row.ensures in
    let t = tell_bad c.args.q c.args.lost s n.0 in
    grind (arith, t, n.1)

pub returns-then-is_over : goal.returns-then-is_over
returns-then-is_over g c =
    let r = c.args.self.now in
    let s = state_of r c.args.row.now in
    let good = is_checked s c.in_ok-check_row.ensures in
    let t = tell_over c.args.q c.args.lost s good (over_is c.args.row.now ∙ sym c.is_over.ensures ∙ c.if-is_over.true) in
    grind (arith, t)

pub returns-in_err-check_wire_fall : goal.returns-in_err-check_wire_fall
returns-in_err-check_wire_fall g c =
    let r = c.args.self.now in
    let s = state_of r c.args.row.now in
    let good = is_checked s c.in_ok-check_row.ensures in
    let e = c.in_err-check_wire_fall.field-0.0 in
    let t = answer_refused c.args.q c.args.lost s good (over_is c.args.row.now ∙ sym c.is_over.ensures ∙ c.if-is_over.false) c.check_wire_fall.result c.check_wire_fall.ensures e c.in_err-check_wire_fall.was in
    grind (arith, t)

pub returns-then-count-self : goal.returns-then-count-self
returns-then-count-self g c =
    let r = c.args.self.now in
    let k = gone_counted (g.W.Wire.meaning r.wire) (g.met.W.Wire.formed r.wire) c.gone.result c.gone.ensures in
    let s = state_of r c.args.row.now in
    sym (answer_spent c.args.q c.args.lost s (is_checked s c.in_ok-check_row.ensures) (over_is c.args.row.now ∙ sym c.is_over.ensures ∙ c.if-is_over.false)
    c.check_wire_fall.result c.check_wire_fall.ensures c.in_ok-check_wire_fall.was (omega (arith, k, c.count.ensures, c.if-count-self.true)))

pub returns : goal.returns
returns g c =
    let r = c.args.self.now in
    let s = state_of r c.args.row.now in
    let k = gone_counted s.wire (g.met.W.Wire.formed r.wire) c.gone.result c.gone.ensures in
    sym (answer_ok c.args.q c.args.lost s (is_checked s c.in_ok-check_row.ensures) (over_is c.args.row.now ∙ sym c.is_over.ensures ∙ c.if-is_over.false)
    c.check_wire_fall.result c.check_wire_fall.ensures c.in_ok-check_wire_fall.was (omega (arith, k, c.count.ensures, c.if-count-self.false)))
