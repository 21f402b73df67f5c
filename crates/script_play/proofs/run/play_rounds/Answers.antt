use Rattle.std.proofs.Common.{sym, ◌∙◌, arith}
use Rattle.script_play.proofs.RoundOfScript.{begins, calls_accepted, still_more, no_more}
use Rattle.script_play.proofs.run.play_rounds.Goals as goal

pub loop-closed-init : goal.loop-closed-init
loop-closed-init g c = begins c.requires

pub play_round-requires : goal.play_round-requires
play_round-requires g c = calls_accepted c.requires c.loop-closed.invariant (omega arith) (let e = c.entries.ensures in cc)

pub loop-closed-preserved : goal.loop-closed-preserved
loop-closed-preserved g c = still_more c.requires c.loop-closed.invariant (omega arith) c.entries.ensures c.play_round.ensures.state (sym c.play_round.ensures.over ∙ c.if-play_round.false)

pub returns-then-play_round : goal.returns-then-play_round
returns-then-play_round g c = no_more c.requires c.loop-closed.invariant (omega arith) c.entries.ensures c.play_round.ensures.state (sym c.play_round.ensures.over ∙ c.if-play_round.true)

pub returns-else-play_round : goal.returns-else-play_round
returns-else-play_round g c =
    let more = (still_more c.requires c.loop-closed.invariant (omega arith) c.entries.ensures c.play_round.ensures.state (sym c.play_round.ensures.over ∙ c.if-play_round.false)).early in
    let last = c.requires.in_time.1 in
    let t = c.t-closed-end.ensures in
    absurd (omega arith)
