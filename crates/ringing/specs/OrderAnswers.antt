-- Strike orders, as they are handed out and taken back. To be believed for the promise.
use Rattle.std.specs.Prelude.{Result}
use Rattle.std.specs.Bool.{⊤}
use Rattle.std.specs.Result.{result_map_both}
use Rattle.base.specs.declared.refusal.Refusal.{Refusal}
use Rattle.base.specs.declared.refused.Refused.{Refused}
use Rattle.base.specs.Results.{refused_with}
use Rattle.sets.specs.declared.box_number.BoxNumber.{BoxNumber}
use Rattle.sets.specs.declared.round_number.RoundNumber.{RoundNumber}
use Rattle.machine.specs.declared.place.Blow.{Blow}
use Rattle.machine.specs.State.{State}
use Rattle.machine.specs.OrderCalls.{on_report}
use Rattle.promise.specs.declared.request.Reply.TheVariants as reply
use Rattle.promise.specs.CallLog.{Answer}
use Rattle.ringing.specs.declared.strike.StrikeOrder.{StrikeOrder}

-- the order of box p, of the round that is told, or the refusal
abbrev pub handed_order : {X : Type 0} → BoxNumber → Result (RoundNumber × X) Refusal → Result StrikeOrder Refusal
handed_order p r = result_map_both (λ x. record { number = p; round = x.0 }) (λ e. e) r

-- giving an order back, with this blow: struck or missed
abbrev pub on_order_back : {K : Type 0} → Blow → StrikeOrder → State K → Result (State K) Refusal
on_order_back b order s = on_report b order.number order.round s

-- what that tells: done, or the refusal with the order
abbrev pub report_answer : {K : Type 0} → StrikeOrder → Result (State K) Refusal → Result ⊤ (Refused StrikeOrder Refusal)
report_answer order r = result_map_both (λ _. tt) (refused_with order) r

-- the answers of both calls as replies: an order counts by its round, and one that a refusal gives back not at all
abbrev pub draw_reply : {K : Type 0} → Result StrikeOrder Refusal → Answer K
draw_reply r = result_map_both (λ o. reply.Drawn o.round) (λ e. e) r

abbrev pub report_reply : {K : Type 0} → Result ⊤ (Refused StrikeOrder Refusal) → Answer K
report_reply r = result_map_both (λ _. reply.Done) (λ e. e.fault) r
