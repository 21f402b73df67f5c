use Rattle.std.proofs.Common.{◌≡◌, ◌++◌, take}
use Rattle.frames.proofs.codec.frame_numbers.Given as goal

abbrev pub invariant-loop-i : goal.invariant-loop-i
invariant-loop-i g l = l.numbers.items ≡ l.initial.numbers.items ++ take l.i (g.K.Proposal.kind.image l.fn.frame.estimate)
