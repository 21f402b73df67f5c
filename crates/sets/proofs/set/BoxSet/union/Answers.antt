-- Bit by bit.
use Rattle.std.proofs.Common.{arith, rules}
use lib.Bits.{or_lt}
use Rattle.std.proofs.lemmas.Bool.Decides.{nat_tests}
use Rattle.sets.proofs.BitLemmas.{set_is, places}
use Rattle.sets.proofs.set.BoxSet.union.Goals as goal

pub returns : goal.returns
returns c = set_is _ _ (search (rules, or_lt 32)) (λ i l. grind (arith, nat_tests, places))
