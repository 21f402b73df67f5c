use Rattle.std.proofs.Common.{[], refl, arith}
use Rattle.base.proofs.NumberedLemmas.{get_some}
use Rattle.promise.specs.CallSteps.{state_after}
use Rattle.ringing.specs.RingingStates.{state}
use Rattle.show_strikes.proofs.OrdersReturned.{made_of, ready_all}
use Rattle.show_strikes.proofs.play.Goals as goal

pub give_all_back-requires : goal.give_all_back-requires
unfolding state_after
give_all_back-requires g c =
    let w = g.W.Wire.meaning in
    let e = c.make_calls-performed.new in
    let r = c.in-Ok.ringing in
    let end = state (w e.ringing.wire) e.ringing.t e.ringing.closed e.row in
    let first = state (w r.wire) r.t r.closed c.make.new.row in
    let made = made_of c.args.wire _ first c.in-Ok.ensures.answer in
    let some = (get_some c.args.proposals.now 0 (omega (arith, c.told-proposals))).0 in
    ready_all end e.orders c.make_calls-performed.result
    (λ a. a) (λ b. (b _ _ _ _ _ first (g.met.W.Wire.formed c.args.wire) made some [] refl).0.good) (λ x. x.2)
    c.make_calls-performed.ensures.orders c.make_calls-performed.ensures.promised c.make_calls-performed.ensures.refused
