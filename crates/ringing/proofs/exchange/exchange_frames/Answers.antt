use Rattle.std.proofs.Common.{refl, sym, ap, ◌∙◌, arith}
use Rattle.wire.specs.WireState.{on_open, on_close}
use Rattle.machine.specs.RoundCall.{wire_in_round}
use Rattle.ringing.proofs.RoundByState.{goes_opened, in_round}
use Rattle.ringing.proofs.exchange.exchange_frames.Goals as goal

pub returns-in_err-post_frames : goal.returns-in_err-post_frames
returns-in_err-post_frames g c = λ s wire row round goes.
    let kind = g.K.Proposal.kind in
    let posts = c.post_frames.ensures (record s { wire = on_open s.wire }) (ap on_open wire ∙ sym c.open.ensures) (grind (arith, row)) (goes_opened kind s goes) (λ q. refl) in
    absurd (grind (arith, posts.0, c.in_err-post_frames.was))

pub returns-in_err-close_boxes : goal.returns-in_err-close_boxes
returns-in_err-close_boxes g c = λ s wire row round goes.
    let kind = g.K.Proposal.kind in
    let posts = c.post_frames.ensures (record s { wire = on_open s.wire }) (ap on_open wire ∙ sym c.open.ensures) (grind (arith, row)) (goes_opened kind s goes) (λ q. refl) in
    let closes = c.close_boxes.ensures (record s { wire = wire_in_round kind s }) (in_round kind s goes (g.W.Wire.meaning c.post_frames.new.wire) posts.1) round row in
    absurd (grind (arith, closes.0, c.in_err-close_boxes.was))

pub returns : goal.returns
returns g c = λ s wire row round goes.
    let kind = g.K.Proposal.kind in
    let posts = c.post_frames.ensures (record s { wire = on_open s.wire }) (ap on_open wire ∙ sym c.open.ensures) (grind (arith, row)) (goes_opened kind s goes) (λ q. refl) in
    let closes = c.close_boxes.ensures (record s { wire = wire_in_round kind s }) (in_round kind s goes (g.W.Wire.meaning c.post_frames.new.wire) posts.1) round row in
    (refl, (let all = ap on_close posts.1 in grind (arith, c.close.ensures, all)), closes.1)
