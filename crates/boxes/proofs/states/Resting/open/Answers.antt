use Rattle.std.proofs.Common.{arith}
use Rattle.std.proofs.lemmas.Bool.Decides.{nat_tests}
use Rattle.sets.proofs.BitLemmas.{bit-mask_of}
use Rattle.boxes.proofs.states.Resting.open.Goals as goal

pub invariant_of-result : goal.invariant_of-result
invariant_of-result g c = let e = c.only.ensures in record { itself = grind (arith, nat_tests, bit-mask_of) }
