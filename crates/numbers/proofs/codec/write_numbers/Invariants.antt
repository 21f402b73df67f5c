use Rattle.std.proofs.Common.{◌≡◌, ◌≤◌, ◌++◌, length, take, drop}
use Rattle.numbers.specs.Numbers.{numbers_bytes}
use Rattle.numbers.proofs.codec.write_numbers.Given as goal

abbrev pub invariant-loop-n : goal.invariant-loop-n
invariant-loop-n l = record {
  long : l.at ≡ length (numbers_bytes (take l.n-index l.numbers));
  done : l.out ≡ numbers_bytes (take l.n-index l.numbers) ++ drop l.at l.fn.out;
  room : length (numbers_bytes l.numbers) ≤ length l.fn.out;
}
