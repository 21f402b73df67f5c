-- Bit by bit. Below 32 the shift loses nothing, so it has the one bit; from 32 on no bit of a mask has that number.
use Rattle.std.proofs.Common.{arith, rules}
use Rattle.std.proofs.lemmas.Nat.{one_shl}
use Rattle.std.proofs.lemmas.Bool.Decides.{nat_tests}
use Rattle.sets.proofs.BitLemmas.{set_is, places}
use Rattle.sets.proofs.set.BoxSet.only.Goals as goal

pub returns-then-q-lt-MOST_COMPANY : goal.returns-then-q-lt-MOST_COMPANY
returns-then-q-lt-MOST_COMPANY c =
    let shifted = one_shl c.args.q.0 32 (omega arith) in
    set_is _ _ (search rules) (λ i l. grind (arith, nat_tests, places))

pub returns-else-q-lt-MOST_COMPANY : goal.returns-else-q-lt-MOST_COMPANY
returns-else-q-lt-MOST_COMPANY c = set_is _ _ (search rules) (λ i l. grind (arith, nat_tests, places))
