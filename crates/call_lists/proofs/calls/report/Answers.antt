use Rattle.call_lists.specs.OrdersInHand.{report_blow}
use Rattle.call_lists.proofs.SlotLemmas.{is_free, answer_is, state_is, orders_are, refusal_is, state_stays, orders_stay, told_new}
use Rattle.call_lists.proofs.calls.report.Goals as goal

pub settle-requires : goal.settle-requires
settle-requires g c = is_free _ _ _ _ _ _ _ c.give_back-reported.ensures.answer c.requires c.in-Some.ensures.answer _ c.take_order.ensures.orders

pub returns-in-Some-clause-answer : goal.returns-in-Some-clause-answer
returns-in-Some-clause-answer g c = answer_is _ _ _ _ _ _ _ c.give_back-reported.ensures.answer c.requires c.in-Some.ensures.answer _ c.settle.ensures.answer

pub returns-in-Some-clause-state : goal.returns-in-Some-clause-state
returns-in-Some-clause-state g c = state_is _ _ _ _ _ _ _ c.give_back-reported.ensures.answer c.requires c.in-Some.ensures.answer _ c.give_back-reported.ensures.state

pub returns-in-Some-clause-orders : goal.returns-in-Some-clause-orders
returns-in-Some-clause-orders g c =
    orders_are _ _ _ _ _ _ _ c.give_back-reported.ensures.answer c.requires c.in-Some.ensures.answer _ c.give_back-reported.ensures.state _ _ (told_new c.args.is_struck)
    c.take_order.ensures.orders c.settle.ensures.orders

pub returns-in-None-clause-answer : goal.returns-in-None-clause-answer
returns-in-None-clause-answer g c = refusal_is _ _ _ (report_blow c.args.is_struck) _ _ c.why_not.ensures c.requires c.in-None.ensures.answer

pub returns-in-None-clause-state : goal.returns-in-None-clause-state
returns-in-None-clause-state g c = state_stays _ _ _ (report_blow c.args.is_struck) _ _ c.why_not.ensures c.requires c.in-None.ensures.answer

pub returns-in-None-clause-orders : goal.returns-in-None-clause-orders
returns-in-None-clause-orders g c = orders_stay _ _ _ (report_blow c.args.is_struck) _ _ c.why_not.ensures c.requires c.in-None.ensures.answer _ c.take_order.ensures.orders
