use Rattle.std.proofs.Common.{◌≡◌, true, drop}
use Rattle.ringing.specs.RingingStates.{state_of}
use Rattle.promise.specs.CallSteps.{state_after, all_accepted}
use Rattle.script_play.specs.ScriptCalls.{falls_before}
use Rattle.script_play.proofs.run.tell_falls.Given as given

-- the entries that are left are told next, and lead to the same end
abbrev pub invariant-loop-entry : given.invariant-loop-entry
invariant-loop-entry g l = record {
  ends : state_after g.K.Proposal.kind (falls_before l.round.0 (drop l.entry-index l.entries)) (state_of l.ringing l.row)
      ≡ state_after g.K.Proposal.kind (falls_before l.round.0 l.entries) (state_of l.fn.ringing l.row);
  accepted : all_accepted g.K.Proposal.kind (falls_before l.round.0 (drop l.entry-index l.entries)) (state_of l.ringing l.row) ≡ true;
}
