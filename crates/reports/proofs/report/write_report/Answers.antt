use Rattle.std.proofs.Common.{length, refl, sym, ◌∙◌, arith}
use Rattle.std.proofs.lemmas.List.{length-map}
use Rattle.machine.specs.Places.{place_state}
use Rattle.ringing.specs.RingingStates.{state_of}
use Rattle.machine.proofs.CheckedRow.{over_is}
use Rattle.reports.proofs.ReportRefusals.{places, good, refused, report_bad, report_silent, report_told}
use Rattle.reports.proofs.report.write_report.Goals as goal

pub returns-in_err-ask : goal.returns-in_err-ask
returns-in_err-ask g c =
    let r = c.args.ringing.now in
    let s = state_of r c.args.row.now in
    let (bad, is) = refused s _ r.company (omega arith) c.in_err-ask.field-0.0 c.in_err-ask.ensures.answer in
    let b = report_bad s g.K.Proposal.kind (length c.args.out.now) bad in
    record { answer = grind (arith, b, is); bytes = grind (arith, b) }

pub returns-then-not-is_over : goal.returns-then-not-is_over
returns-then-not-is_over g c =
    let r = c.args.ringing.now in
    let s = state_of r c.args.row.now in
    let ok = good s _ c.in_ok-ask.field-0 c.in_ok-ask.ensures.answer in
    let b = report_silent s g.K.Proposal.kind (length c.args.out.now) ok (over_is c.args.row.now ∙ sym c.is_over.ensures ∙ c.if-not-is_over.true) in
    record { answer = grind (arith, b); bytes = grind (arith, b) }

pub report_text-requires : goal.report_text-requires
report_text-requires g c =
    let r = c.args.ringing.now in
    let s = state_of r c.args.row.now in
    omega (arith, length-map c.args.row.now place_state, (places s r.company (good s _ c.in_ok-ask.field-0 c.in_ok-ask.ensures.answer)).1)

pub returns : goal.returns
returns g c =
    let r = c.args.ringing.now in
    let s = state_of r c.args.row.now in
    let ok = good s _ c.in_ok-ask.field-0 c.in_ok-ask.ensures.answer in
    let b = report_told s g.K.Proposal.kind (length c.args.out.now) c.args.out.now refl ok (over_is c.args.row.now ∙ sym c.is_over.ensures ∙ c.if-not-is_over.false) in
    record { answer = grind (arith, b.0); bytes = grind (arith, b.1) }
