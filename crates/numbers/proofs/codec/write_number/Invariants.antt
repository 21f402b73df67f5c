use Rattle.std.proofs.Common.{◌≡◌, ◌++◌, length, drop}
use Rattle.numbers.specs.Numbers.{marked_groups, number_bytes}
use Rattle.numbers.proofs.codec.write_number.Given as goal

abbrev pub invariant-loop-i : goal.invariant-loop-i
invariant-loop-i l = record {
  left : length (marked_groups l.rest) ≡ l.i;
  done : marked_groups l.rest ++ drop l.i l.out ≡ number_bytes l.n ++ drop l.len l.fn.out;
}
