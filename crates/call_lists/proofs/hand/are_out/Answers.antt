use Rattle.std.proofs.Common.{◌≡◌, ℕ, true, length, get_or, Some, None, refl, sym, ap, ◌∙◌, below_more, arith}
use Rattle.std.specs.List.{slice_get}
use Rattle.std.proofs.lemmas.Bool.Decides.{nat_tests}
use Rattle.std.proofs.lemmas.Option.{slice_get_read, slice_get_within}
use Rattle.machine.specs.declared.place.Place.{Place}
use Rattle.machine.specs.Places.{place_state}
use Rattle.call_lists.specs.OrdersInHand.{order_out, same_order}
use Rattle.call_lists.proofs.SlotLemmas.{short_not, other_not, all_are}
use Rattle.call_lists.proofs.hand.are_out.Goals as goal

pub returns-then-row-orders : goal.returns-then-row-orders
returns-then-row-orders g c = short_not c.args.row.now c.args.orders.now (grind (arith, nat_tests, c.if-row-orders.true))

pub returns-then-not-holds_order : goal.returns-then-not-holds_order
returns-then-not-holds_order g c =
    let row = c.args.row.now in
    let here = slice_get_read row (length row) c.loop-p.p c.index-row-p.result refl c.loop-p-test.true c.index-row-p.is in
    other_not row c.args.orders.now c.loop-p.p c.index-row-p.result here (sym c.holds_order.ensures ∙ c.if-not-holds_order.true)

pub loop-p-preserved : goal.loop-p-preserved
loop-p-preserved g c = λ k x l at.
    let row = c.args.row.now in
    let orders = c.args.orders.now in
    let here = slice_get_read row (length row) c.loop-p.p c.index-row-p.result refl c.loop-p-test.true c.index-row-p.is in
    below_more (λ (k : ℕ). (x : Place g.row.K.Denot) → slice_get row k ≡ Some x → same_order (order_out k (place_state x)) (get_or orders k None) ≡ true) c.loop-p.p (λ k l x at. c.loop-p.invariant k x l at)
    (λ x at. let same : c.index-row-p.result ≡ x = cc in
    ap (λ y. same_order (order_out c.loop-p.p (place_state y)) (get_or orders c.loop-p.p None)) (sym same) ∙ sym c.holds_order.ensures ∙ c.if-not-holds_order.false)
    k l x at

pub returns : goal.returns
returns g c =
    all_are c.args.row.now c.args.orders.now (let e = c.if-row-orders.false in grind (arith, nat_tests)) (λ p x at. c.loop-p.invariant p x (let l = slice_get_within c.args.row.now p x at in omega arith) at)
