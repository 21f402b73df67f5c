use Rattle.std.proofs.Common.{arith}
use Rattle.numbers.proofs.Groups.{length_by_bits}
use Rattle.numbers.proofs.codec.number_len.Goals as goal

pub returns : goal.returns
returns c = length_by_bits c.args.n c.ilog2.result (omega arith) (omega arith)
