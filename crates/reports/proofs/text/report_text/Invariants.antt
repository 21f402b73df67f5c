use Rattle.std.proofs.Common.{◌≡◌, ◌*◌, ◌≤◌, length, map, take}
use Rattle.machine.specs.Places.{place_state}
use Rattle.reports.specs.Reports.{report_text}
use Rattle.reports.proofs.text.report_text.Given as given

abbrev pub invariant-loop-p : given.invariant-loop-p
invariant-loop-p g l = record {
  items : l.text.items ≡ report_text g.K.Proposal.kind (take l.p (map place_state l.row));
  short : length l.text.items ≤ 73 * l.p;
}
