use Rattle.std.proofs.Common.{◌≡◌, ◌≤◌, length, take, drop}
use Rattle.std.specs.List.{prefix_len}
use Rattle.numbers.specs.Numbers.{goes_on, value_of}
use Rattle.numbers.proofs.codec.read_groups.Given as goal

abbrev pub invariant-loop-i : goal.invariant-loop-i
invariant-loop-i l = record {
  few : length l.yielded ≤ 4;
  on : length l.yielded ≤ prefix_len goes_on (drop l.at l.bytes);
  high : l.high ≡ value_of (take (length l.yielded) (drop l.at l.bytes));
}
