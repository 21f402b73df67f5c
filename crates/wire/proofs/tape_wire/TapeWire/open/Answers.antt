use Rattle.std.proofs.Common.{arith}
use Rattle.wire.specs.PostedBytes.{tape_frame}
use Rattle.wire.proofs.RosterLemmas.{absent}
use Rattle.wire.proofs.TapeLemmas.{none_filled}
use Rattle.wire.proofs.tape_wire.TapeWire.open.Goals as goal

pub invariant_of-self : goal.invariant_of-self
invariant_of-self c =
    record {
      holds = λ q t. absent _ (grind arith) q t;
      apart = λ p q t u. absent _ (grind arith) p t;
      filled = none_filled _ _ _ (grind arith) (grind arith);
    }

pub returns : goal.returns
returns c = let m = c.open.ensures.meaning (tape_frame c.args.self.now.spans c.clear.new.self.items) in cc
