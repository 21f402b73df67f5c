use Rattle.show_strikes.proofs.OrdersReturned.{ready_from, back_now, back_on}
use Rattle.show_strikes.proofs.give_all_back.Goals as goal

pub give_back-requires : goal.give_back-requires
give_back-requires g c = back_now _ 0 c.args.orders (ready_from _ _ c.requires)

pub give_back-requires-2 : goal.give_back-requires-2
give_back-requires-2 g c = back_now _ 1 c.args.orders (back_on _ 0 _ _ c.give_back.ensures (ready_from _ _ c.requires))

pub give_back-requires-3 : goal.give_back-requires-3
give_back-requires-3 g c = back_now _ 2 c.args.orders (back_on _ 1 _ _ c.give_back-2.ensures (back_on _ 0 _ _ c.give_back.ensures (ready_from _ _ c.requires)))

pub give_back-requires-4 : goal.give_back-requires-4
give_back-requires-4 g c =
    back_now _ 3 c.args.orders (back_on _ 2 _ _ c.give_back-3.ensures (back_on _ 1 _ _ c.give_back-2.ensures (back_on _ 0 _ _ c.give_back.ensures (ready_from _ _ c.requires))))
