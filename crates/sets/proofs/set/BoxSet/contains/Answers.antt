-- A bit from 32 on is in no mask.
use Rattle.std.proofs.Common.{arith, rules}
use Rattle.std.proofs.lemmas.Bool.Decides.{nat_tests}
use Rattle.sets.proofs.BitLemmas.{bit_high, bit_read}
use Rattle.sets.proofs.set.BoxSet.contains.Goals as goal

pub returns-then-q-lt-MOST_COMPANY : goal.returns-then-q-lt-MOST_COMPANY
returns-then-q-lt-MOST_COMPANY c = search (rules, bit_read)

pub returns-else-q-lt-MOST_COMPANY : goal.returns-else-q-lt-MOST_COMPANY
returns-else-q-lt-MOST_COMPANY c =
    let none = bit_high 32 c.args.self.mask c.args.q.0 (search rules) (omega arith) in
    grind (arith, nat_tests)
