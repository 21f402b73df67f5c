use Rattle.ringing.specs.RingingStates.{state_of}
use Rattle.scripts.specs.ScriptValues.{values_of}
use Rattle.script_play.proofs.RoundOfScript.{Here}
use Rattle.script_play.proofs.run.play_rounds.Given as given

-- so many rounds are played, and the boxes do not ring yet
abbrev pub invariant-loop-closed : given.invariant-loop-closed
invariant-loop-closed g l =
    Here g.K.Proposal.kind (values_of l.script) (state_of l.fn.ringing l.fn.row) l.closed
    (state_of l.ringing l.row)
