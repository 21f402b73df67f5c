use Rattle.std.proofs.Common.{◌<◌, length, refl, ap, arith}
use Rattle.std.specs.Result.{result_map_both}
use Rattle.machine.specs.Places.{place_state}
use Rattle.machine.specs.RoundCall.{place_after}
use Rattle.ringing.proofs.HearOneByOne.{ok_same}
use Rattle.ringing.proofs.PlaceAfterRound.{read_next, done_more, done_all}
use Rattle.ringing.proofs.exchange.close_boxes.Goals as goal

pub returns-in_err-place : goal.returns-in_err-place
returns-in_err-place g c = λ s r round row.
    let i = c.loop-place.place-index in
    let l : i < length c.loop-place.row = omega (arith, c.loop-place.auto.row, c.loop-place-test.true) in
    let so = c.place_after.ensures s i r round (read_next (place_after g.K.Proposal.kind s) s.row c.loop-place.row i c.place-item.result l c.place-item.is (c.loop-place.invariant s r round row)) in
    absurd (grind (arith, so, c.in_err-place.was))

pub loop-place-preserved : goal.loop-place-preserved
loop-place-preserved g c = λ s r round row.
    let i = c.loop-place.place-index in
    let l : i < length c.loop-place.row = omega (arith, c.loop-place.auto.row, c.loop-place-test.true) in
    let at = read_next (place_after g.K.Proposal.kind s) s.row c.loop-place.row i c.place-item.result l c.place-item.is (c.loop-place.invariant s r round row) in
    let out = ok_same _ _ _ (ap (result_map_both place_state (λ e. e)) c.in_ok-place.was) (c.place_after.ensures s i r round at) in
    done_more (place_after g.K.Proposal.kind s) s.row c.loop-place.row i _ _ l at out (c.loop-place.invariant s r round row)

pub returns : goal.returns
returns g c = λ s r round row.
    let kind = g.K.Proposal.kind in
    (refl, done_all (place_after kind s) s.row c.loop-place.row c.loop-place.place-index (omega arith) (c.loop-place.invariant s r round row))
