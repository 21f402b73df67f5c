use Rattle.sets.proofs.MemberLemmas.{none_member, none_below, none_counted}
use Rattle.std.proofs.Common.{arith}
use Rattle.boxes.proofs.states.Resting.new.Goals as goal

pub invariant_of-result-clause-within : goal.invariant_of-result-clause-within
invariant_of-result-clause-within g c = none_below c.empty.result c.empty.ensures c.args.n

pub invariant_of-result-clause-present : goal.invariant_of-result-clause-present
invariant_of-result-clause-present g c = none_member c.empty.result c.empty.ensures c.args.number.0

pub invariant_of-result-clause-sparse : goal.invariant_of-result-clause-sparse
invariant_of-result-clause-sparse g c = omega (arith, none_counted c.empty.result c.empty.ensures)
