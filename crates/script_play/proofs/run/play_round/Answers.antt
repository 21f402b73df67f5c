use Rattle.std.proofs.Common.{◌≡◌, true, is_ok, subst, sym, ap, ◌∙◌, arith}
use Rattle.std.specs.Result.{IsOk}
use Rattle.frames.specs.Frames.{longest_frame}
use Rattle.machine.specs.RoundCall.{on_round}
use Rattle.machine.proofs.CheckedRow.{over_is}
use Rattle.ringing.specs.RingingStates.{state_of}
use Rattle.promise.specs.declared.request.Request.TheVariants as request
use Rattle.promise.specs.CallSteps.{state_after_call}
use Rattle.promise.proofs.CallAnswers.{done_ok}
use Rattle.script_play.proofs.FallsOfRound.{answers}
use Rattle.script_play.proofs.CallByCall.{falls_told, round_last, round_split}
use Rattle.script_play.proofs.run.play_round.Goals as goal

pub tell_falls-requires : goal.tell_falls-requires
tell_falls-requires g c =
    let kind = g.K.Proposal.kind in
    let r = c.args.ringing.now in
    let all = c.requires in
    let split = round_split kind c.args.round.0 c.args.entries.now (state_of r c.args.row.now) in
    grind arith

pub unwrap-requires : goal.unwrap-requires
unwrap-requires g c =
    let kind = g.K.Proposal.kind in
    let r = c.args.ringing.now in
    let s = state_of r c.args.row.now in
    let all = c.requires in
    let split = round_split kind c.args.round.0 c.args.entries.now s in
    let ok : is_ok (on_round kind longest_frame (falls_told kind c.args.round.0 c.args.entries.now s)) ≡ true = sym (done_ok g.row.K.Denot (on_round kind longest_frame (falls_told kind c.args.round.0 c.args.entries.now s))) ∙ grind arith in
    subst IsOk (sym c.round.ensures.answer) (answers _ (ap (λ x. is_ok (on_round kind longest_frame x)) c.tell_falls.ensures ∙ ok))

pub returns-clause-state : goal.returns-clause-state
returns-clause-state g c =
    let kind = g.K.Proposal.kind in
    let r = c.args.ringing.now in
    let s = state_of r c.args.row.now in
    c.round.ensures.steps.1 ∙ ap (state_after_call kind (request.Round longest_frame)) c.tell_falls.ensures ∙ sym (round_last kind c.args.round.0 c.args.entries.now s)

pub returns-clause-over : goal.returns-clause-over
returns-clause-over g c = c.is_over.ensures ∙ sym (over_is c.round.new.row)
