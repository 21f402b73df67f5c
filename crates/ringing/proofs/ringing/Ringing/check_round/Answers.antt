use Rattle.std.proofs.Common.{sym, ◌∙◌, arith}
use Rattle.machine.proofs.CheckedRow.{over_is}
use Rattle.ringing.specs.RingingStates.{state_of}
use Rattle.ringing.proofs.FallByExit.{is_checked, not_checked}
use Rattle.ringing.proofs.RoundByState.{play_bad, play_narrow, play_over, play_ok}
use Rattle.ringing.proofs.ringing.Ringing.check_round.Goals as goal

pub returns-in_err-check_row : goal.returns-in_err-check_row
returns-in_err-check_row g c =
    let r = c.args.self.now in
    let s = state_of r c.args.row.now in
    let n = not_checked s c.in_err-check_row.field-0.0 c.in_err-check_row.ensures in
    let t = play_bad g.K.Proposal.kind c.args.room s n.0 in
    grind (arith, t, n.1)

pub returns-then-room-lt-LONGEST_FRAME : goal.returns-then-room-lt-LONGEST_FRAME
returns-then-room-lt-LONGEST_FRAME g c =
    let r = c.args.self.now in
    let s = state_of r c.args.row.now in
    sym (play_narrow g.K.Proposal.kind c.args.room s (is_checked s c.in_ok-check_row.ensures) (omega (arith, c.if-room-lt-LONGEST_FRAME.true)))

pub returns-then-is_over : goal.returns-then-is_over
returns-then-is_over g c =
    let r = c.args.self.now in
    let s = state_of r c.args.row.now in
    let t = play_over g.K.Proposal.kind c.args.room s (is_checked s c.in_ok-check_row.ensures) (omega (arith, c.if-room-lt-LONGEST_FRAME.false))
    (over_is c.args.row.now ∙ sym c.is_over.ensures ∙ c.if-is_over.true) in
    grind (arith, t)

pub returns : goal.returns
returns g c =
    let r = c.args.self.now in
    let s = state_of r c.args.row.now in
    let t = play_ok g.K.Proposal.kind c.args.room s (is_checked s c.in_ok-check_row.ensures) (omega (arith, c.if-room-lt-LONGEST_FRAME.false))
    (over_is c.args.row.now ∙ sym c.is_over.ensures ∙ c.if-is_over.false) in
    grind (arith, t)
