-- From 32 on no mask has a bit; else the shift leaves the bits from n on.
use Rattle.std.proofs.Common.{arith, rules}
use Rattle.std.proofs.lemmas.Bool.Decides.{nat_tests}
use Rattle.base.proofs.CountLemmas.{not-any}
use Rattle.sets.proofs.BitLemmas.{above_is}
use Rattle.sets.proofs.set.BoxSet.is_below.Goals as goal

pub returns-then-n-ge-MOST_COMPANY : goal.returns-then-n-ge-MOST_COMPANY
returns-then-n-ge-MOST_COMPANY c = not-any _ 32 _ (λ t i l. grind (arith, nat_tests)) (λ f. grind (arith, nat_tests))

pub returns-else-n-ge-MOST_COMPANY : goal.returns-else-n-ge-MOST_COMPANY
returns-else-n-ge-MOST_COMPANY c = search (rules, above_is 32)
