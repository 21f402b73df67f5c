-- Below 32 the shift loses nothing, and a power of two less one has the bits below its exponent; from 32 on all 32 are meant.
use Rattle.std.proofs.Common.{arith, rules}
use Rattle.std.proofs.lemmas.Nat.{one_shl}
use Rattle.std.proofs.lemmas.Bool.Decides.{nat_tests}
use Rattle.sets.proofs.BitLemmas.{bit-ones, set_is, places}
use Rattle.sets.proofs.set.BoxSet.all_below.Goals as goal

pub returns-then-n-lt-MOST_COMPANY : goal.returns-then-n-lt-MOST_COMPANY
returns-then-n-lt-MOST_COMPANY c =
    let shifted = one_shl c.args.n 32 (omega arith) in
    set_is _ _ (search rules) (λ i l. grind (arith, nat_tests, places))

pub returns-else-n-lt-MOST_COMPANY : goal.returns-else-n-lt-MOST_COMPANY
returns-else-n-lt-MOST_COMPANY c = set_is _ _ (search rules) (λ i l. grind (arith, nat_tests, bit-ones 32))
