use Rattle.std.proofs.Common.{[], arith}
use Rattle.wire.specs.PostedBytes.{line_frame}
use Rattle.wire.proofs.RosterLemmas.{absent}
use Rattle.wire.proofs.board.Board.new.Goals as goal

pub returns-in_err-new : goal.returns-in_err-new
returns-in_err-new c = let h = c.new.ensures.made (λ _. []) in grind arith

pub invariant_of-result : goal.invariant_of-result
invariant_of-result c = record { postable = λ q t. absent _ c.in_ok-new.ensures.posted q t }

pub returns : goal.returns
returns c = let h = c.in_ok-new.ensures.made (line_frame c.from_fn.result) in cc
