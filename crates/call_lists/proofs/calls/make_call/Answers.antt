use Rattle.std.proofs.Common.{ap, sym, ◌∙◌}
use Rattle.ringing.specs.RingingStates.{state_of}
use Rattle.call_lists.specs.OrdersInHand.{orders_out}
use Rattle.call_lists.proofs.CallLemmas.{round_orders}
use Rattle.call_lists.proofs.calls.make_call.Goals as goal

pub returns-in_ok-play_round-in-Round-clause-orders : goal.returns-in_ok-play_round-in-Round-clause-orders
returns-in_ok-play_round-in-Round-clause-orders g c =
    let r = c.args.ringing.now in
    let s = state_of r c.args.row.now in
    c.requires ∙ sym (round_orders g.K.Proposal.kind c.in-Round.room s) ∙ ap (λ x. orders_out x.row) (sym c.play_round.ensures.1)
