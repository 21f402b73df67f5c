use Rattle.std.proofs.Common.{◌≡◌, ◌+◌, ◌*◌, ◌≤◌, ◌++◌, length, take}
use Rattle.reports.specs.Reports.{spaced_numbers}
use Rattle.reports.proofs.text.push_image.Given as given

abbrev pub invariant-loop-i : given.invariant-loop-i
invariant-loop-i g l = record {
  items : l.text.items ≡ l.fn.text.items ++ spaced_numbers (take l.i (g.K.Proposal.kind.image l.proposal));
  short : length l.text.items ≤ length l.fn.text.items + 11 * l.i;
}
