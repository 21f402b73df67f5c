use Rattle.std.proofs.Common.{arith}
use Rattle.wire.specs.PostedBytes.{line_frame}
use Rattle.wire.proofs.RosterLemmas.{absent}
use Rattle.wire.proofs.board_wire.BoardWire.open.Goals as goal

pub invariant_of-self : goal.invariant_of-self
invariant_of-self c = record { postable = λ q t. absent _ (grind arith) q t }

pub returns : goal.returns
returns c = let m = c.open.ensures.meaning (line_frame c.args.self.now.lines) in cc
