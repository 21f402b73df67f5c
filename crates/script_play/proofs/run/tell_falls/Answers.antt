use Rattle.std.proofs.Common.{◌+◌, drop, subst, sym, ap, ◌∙◌}
use Rattle.std.specs.Result.{IsOk}
use Rattle.ringing.specs.RingingStates.{state_of}
use Rattle.promise.specs.CallSteps.{state_after, all_accepted}
use Rattle.scripts.specs.declared.entry.Entry.{Entry}
use Rattle.script_play.specs.ScriptCalls.{falls_before}
use Rattle.script_play.proofs.FallsOfRound.{none_left, skipped, told_ends, told_accepted, answers}
use Rattle.script_play.proofs.run.tell_falls.Goals.{then-eq, else-eq}
use Rattle.script_play.proofs.run.tell_falls.Goals as goal

abbrev blank : Entry
blank = record { round = record { 0 = 0 }; number = record { 0 = 0 }; lost = record { mask = 0 } }

pub unwrap-requires : goal.unwrap-requires
unwrap-requires g c =
    let kind = g.K.Proposal.kind in
    let r = c.loop-entry.ringing in
    let s = state_of r c.args.row.now in
    let t = told_accepted c.args.round.0 c.args.entries.now c.loop-entry.entry-index blank c.loop-entry-test.true (sym c.eq.ensures ∙ c.if-eq.true) kind s c.loop-entry.invariant.accepted in
    subst IsOk (sym c.fall.ensures.answer) (answers _ t.0)

pub loop-entry-preserved : goal.loop-entry-preserved
loop-entry-preserved g c =
    let kind = g.K.Proposal.kind in
    let r = c.loop-entry.ringing in
    let i = c.loop-entry.entry-index in
    let s = state_of r c.args.row.now in
    let more = falls_before c.args.round.0 (drop (i + 1) c.args.entries.now) in
    elim c.if-eq.branch [
      | then-eq w ↦
          let now = sym c.eq.ensures ∙ w.if-eq.true in
          let t = told_accepted c.args.round.0 c.args.entries.now i blank c.loop-entry-test.true now kind s c.loop-entry.invariant.accepted in
          let same = ap (λ x. state_of x c.args.row.now) w.ringing-is ∙ w.fall.ensures.steps.1 in
          record {
            ends = ap (state_after kind more) same ∙ sym (told_ends c.args.round.0 c.args.entries.now i blank c.loop-entry-test.true now kind s) ∙ c.loop-entry.invariant.ends;
            accepted = ap (all_accepted kind more) same ∙ t.1;
          }
      | else-eq w ↦
          let skip = skipped c.args.round.0 c.args.entries.now i blank c.loop-entry-test.true (sym c.eq.ensures ∙ w.if-eq.false) in
          let same = ap (λ x. state_of x c.args.row.now) w.ringing-is in
          record {
            ends = ap (state_after kind more) same ∙ ap (λ calls. state_after kind calls s) (sym skip) ∙ c.loop-entry.invariant.ends;
            accepted = ap (all_accepted kind more) same ∙ ap (λ calls. all_accepted kind calls s) (sym skip) ∙ c.loop-entry.invariant.accepted;
          }
    ]

pub returns : goal.returns
unfolding state_after
returns g c =
    let kind = g.K.Proposal.kind in
    let r = c.loop-entry.ringing in
    let s = state_of r c.args.row.now in
    ap (λ calls. state_after kind calls s) (sym (none_left c.args.round.0 c.args.entries.now c.loop-entry.entry-index c.loop-entry-test.false)) ∙ c.loop-entry.invariant.ends
