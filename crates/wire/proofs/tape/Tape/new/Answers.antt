use Rattle.std.proofs.Common.{[], replicate, arith}
use Rattle.wire.specs.PostedBytes.{no_span, tape_frame}
use Rattle.wire.proofs.RosterLemmas.{absent}
use Rattle.wire.proofs.TapeLemmas.{none_filled}
use Rattle.wire.proofs.tape.Tape.new.Goals as goal

pub returns-in_err-new : goal.returns-in_err-new
returns-in_err-new c = let h = c.new.ensures.made (λ _. []) in grind arith

pub invariant_of-result : goal.invariant_of-result
invariant_of-result c =
    record {
      holds = λ q t. absent _ c.in_ok-new.ensures.posted q t;
      apart = λ p q t u. absent _ c.in_ok-new.ensures.posted p t;
      filled = none_filled _ _ _ c.in_ok-new.ensures.posted (grind arith);
    }

pub returns : goal.returns
returns c = let h = c.in_ok-new.ensures.made (tape_frame (replicate 32 no_span) c.new-2.result.items) in cc
