use Rattle.std.proofs.Common.{Ok, Some, sym, ap, ◌∙◌, arith}
use Rattle.std.specs.Result.{result_map_both}
use Rattle.boxes.specs.BoxRounds.{outcome}
use Rattle.machine.specs.Places.{place_state, state_of_outcome}
use Rattle.machine.specs.RoundCall.{place_after}
use Rattle.ringing.proofs.HearOneByOne.{ok_same}
use Rattle.ringing.proofs.PlaceAfterRound.{own_place, falls_down, stays_up}
use Rattle.ringing.proofs.exchange.place_after.Goals as goal

pub returns-then-contains : goal.returns-then-contains
returns-then-contains g c = λ s p r round at.
    let kind = g.K.Proposal.kind in
    let here = at ∙ ap (λ x. Some (place_state x)) c.in-Resting.is in
    let falls = falls_down kind (g.W.Wire.meaning c.args.wire.now) (g.met.W.Wire.formed c.args.wire.now) s r c.in-Resting.b p here
    c.falling.result c.falling.ensures (grind (arith, c.number.ensures, c.contains.ensures, c.if-contains.true)) in
    let same = ap (λ x. place_after kind s p (place_state x)) c.in-Resting.is in
    grind (arith, round, falls, same)

pub returns-in_ok-close_box-in-Resting : goal.returns-in_ok-close_box-in-Resting
returns-in_ok-close_box-in-Resting g c = λ s p r round at.
    let kind = g.K.Proposal.kind in
    let b = c.in-Resting.b in
    let here = at ∙ ap (λ x. Some (place_state x)) c.in-Resting.is in
    let closes = c.close_box.ensures s r (own_place kind (g.W.Wire.meaning c.args.wire.now) (g.met.W.Wire.formed c.args.wire.now) s r b p here) in
    let out = ok_same _ _ _ (ap (result_map_both outcome (λ e. e)) c.in_ok-close_box-in-Resting.was) closes in
    let stays = stays_up kind (g.W.Wire.meaning c.args.wire.now) (g.met.W.Wire.formed c.args.wire.now) s r b p here
    c.falling.result c.falling.ensures (grind (arith, c.number.ensures, c.contains.ensures, c.if-contains.false)) in
    let into = c.into.ensures in
    ap Ok (into ∙ ap state_of_outcome out ∙ stays) ∙ ap (λ x. Ok (place_after kind s p (place_state x))) (sym c.in-Resting.is)
