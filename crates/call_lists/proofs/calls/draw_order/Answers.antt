use Rattle.std.proofs.Common.{length, get_or, set, None, sym, ap, ◌∙◌, arith}
use Rattle.ringing.specs.RingingStates.{state_of}
use Rattle.call_lists.specs.OrdersInHand.{orders_out}
use Rattle.call_lists.proofs.SlotLemmas.{orders_length, was_handed}
use Rattle.call_lists.proofs.calls.draw_order.Goals as goal

pub bounds-orders-p : goal.bounds-orders-p
bounds-orders-p g c =
    let r = c.args.ringing.now in
    let s = state_of r c.args.row.now in
    let h = was_handed s c.args.p c.in_ok-order.order c.in_ok-order.ensures.answer in
    omega (arith, h.placed, orders_length s.row, ap length c.requires)

pub keep-requires : goal.keep-requires
keep-requires g c =
    let r = c.args.ringing.now in
    let s = state_of r c.args.row.now in
    let h = was_handed s c.args.p c.in_ok-order.order c.in_ok-order.ensures.answer in
    ap (λ o. get_or o c.args.p.0 None) c.requires ∙ h.free

pub returns-clause-orders : goal.returns-clause-orders
returns-clause-orders g c =
    let r = c.args.ringing.now in
    let s = state_of r c.args.row.now in
    let h = was_handed s c.args.p c.in_ok-order.order c.in_ok-order.ensures.answer in
    (λ j. set (c.requires j) c.args.p.0 (c.keep.ensures j)) ∙ h.put ∙ ap (λ x. orders_out x.row) (sym c.in_ok-order.ensures.steps.1)
