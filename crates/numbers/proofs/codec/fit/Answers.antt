use Rattle.std.proofs.Common.{ℕ, ◌^◌, ◌<◌, ◌≤◌, List, length, get_or, Fits, w32, arith, rules}
use Rattle.std.specs.List.{sum_by}
use Rattle.std.proofs.lemmas.List.Concat.{length-flat_map}
use Rattle.std.proofs.lemmas.List.Elements.{All-from_get_or}
use Rattle.std.proofs.lemmas.List.Sums.{sum_by-le}
use Rattle.numbers.specs.Numbers.{number_bytes, numbers_bytes}
use Rattle.numbers.proofs.Groups.{number_length}
use Rattle.numbers.proofs.SeveralWritten.{length-le-written_all}
use Rattle.numbers.proofs.codec.fit.Goals as goal

-- each number has five bytes at most, and takes four in the slice
fits : (ns : List ℕ) → length ns < 2 ^ 61 → ((i : ℕ) → Fits w32 (get_or ns i 0)) → sum_by (λ n. length (number_bytes n)) ns < 2 ^ 64
fits ns few each = omega (arith, sum_by-le (λ n. length (number_bytes n)) 5 ns (All-from_get_or (λ n. length (number_bytes n) ≤ 5) ns 0 (λ i inside. (number_length 4 (get_or ns i 0) (omega (arith, each i))).1)))

pub sum-requires-clause-fits : goal.sum-requires-clause-fits
sum-requires-clause-fits c = let small = fits c.args.numbers.now (omega arith) c.type_inv.numbers in search rules

pub returns-then-numbers-room : goal.returns-then-numbers-room
unfolding numbers_bytes
returns-then-numbers-room c = rw length-flat_map (search rules)

pub returns-else-numbers-room : goal.returns-else-numbers-room
returns-else-numbers-room c = let each = length-le-written_all c.args.numbers.now in search (rules, arith)
