-- No bit of 0 is set.
use Rattle.std.proofs.Common.{arith, rules}
use Rattle.std.proofs.lemmas.Bool.Decides.{nat_tests}
use Rattle.sets.proofs.BitLemmas.{set_is, places}
use Rattle.sets.proofs.set.BoxSet.empty.Goals as goal

pub returns : goal.returns
returns c = set_is _ _ (search rules) (λ i l. grind (arith, nat_tests, places))
