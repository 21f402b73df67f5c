use Rattle.std.proofs.Common.{◌≡◌, ◌++◌, length, map, take, drop}
use Rattle.machine.specs.Places.{place_state}
use Rattle.promise.specs.CallSteps.{state_after, answers_to}
use Rattle.ringing.specs.RingingStates.{state_of}
use Rattle.call_lists.specs.OrdersInHand.{orders_out}
use Rattle.call_lists.proofs.calls.make_calls.Given as given

-- the calls that are left lead to the same end, with the same answers behind those that are written
abbrev pub invariant-loop-index : given.invariant-loop-index
invariant-loop-index g l = record {
  orders : l.orders ≡ orders_out (map place_state l.row);
  ends : state_after g.K.Proposal.kind (drop l.index l.calls) (state_of l.ringing l.row)
      ≡ state_after g.K.Proposal.kind l.calls (state_of l.fn.ringing l.fn.row);
  answers : take l.index l.answers ++ answers_to g.K.Proposal.kind (drop l.index l.calls) (state_of l.ringing l.row)
      ≡ answers_to g.K.Proposal.kind l.calls (state_of l.fn.ringing l.fn.row);
  rest : drop l.index l.answers ≡ drop l.index l.fn.answers;
  room : length l.answers ≡ length l.fn.answers;
}
