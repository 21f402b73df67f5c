use Rattle.std.proofs.Common.{length, map, option_map, refl, ap, ◌∙◌, arith}
use Rattle.std.proofs.lemmas.Option.{slice_get_read, slice_get-map}
use Rattle.machine.specs.Places.{place_state}
use Rattle.reports.proofs.LineLengths.{report-more}
use Rattle.reports.proofs.text.report_text.Goals as goal

pub loop-p-preserved : goal.loop-p-preserved
loop-p-preserved g c =
    let row = c.args.row.now in
    let p = c.loop-p.p in
    let here = slice_get_read row (length row) p c.index-row-p.result refl c.loop-p-test.true c.index-row-p.is in
    let more = report-more g.K.Proposal.kind (map place_state row) p (place_state c.index-row-p.result) (slice_get-map place_state row p ∙ ap (option_map place_state) here) in
    let short = c.deref.ensures.1 in
    record { items = grind (arith, c.try_extend_from_slice.ensures.ok); short = grind (arith, c.try_extend_from_slice.ensures.len) }
