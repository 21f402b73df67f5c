-- Bit by bit.
use Rattle.std.proofs.Common.{arith}
use lib.Bits.{and_le_l}
use Rattle.std.proofs.lemmas.Bool.Decides.{nat_tests}
use Rattle.sets.proofs.BitLemmas.{bit-not, set_is, places}
use Rattle.sets.proofs.set.BoxSet.difference.Goals as goal

pub returns : goal.returns
returns c = set_is _ _ (omega (arith, and_le_l)) (λ i l. grind (arith, nat_tests, places, bit-not 32))
