-- Each clause is a lemma on bits.
use Rattle.std.proofs.Common.{arith}
use Rattle.sets.proofs.BitLemmas.{bit_ext, bit-mask_of, mask_below, ones_counted}
use Rattle.sets.proofs.laws.sets_laws.Goals as goal

pub returns : goal.returns
returns c =
    record {
      most = omega arith;
      ones = ones_counted;
      determined = bit_ext;
      members = bit-mask_of;
      below = mask_below;
    }
