use Rattle.std.proofs.Common.{refl, ap, ◌∙◌}
use Rattle.base.specs.Results.{or_kept}
use Rattle.promise.specs.CallSteps.{done_answer}
use Rattle.ringing.specs.RingingStates.{state_of}
use Rattle.call_lists.proofs.CallLemmas.{playing_room, room_same}
use Rattle.call_lists.proofs.calls.play_round.Goals as goal

pub returns : goal.returns
returns g c =
    let kind = g.K.Proposal.kind in
    let r = c.args.ringing.now in
    let s = state_of r c.args.row.now in
    let steps = c.round.ensures.steps in
    let same = playing_room kind _ c.args.room s (room_same _ c.min.result c.args.room refl c.min.ensures) in
    (steps.0 ∙ ap (done_answer {K = g.row.K.Denot}) same, steps.1 ∙ ap (or_kept s) same)
