use Rattle.promise.proofs.CallKeepsLog.{calls_kept}
use Rattle.promise.proofs.ToldByLog.{follows}
use Rattle.promise.proofs.OneRingProof.{rings_once}
use Rattle.promise.proofs.OrdersOnceProof.{orders_once}
use Rattle.promise.proofs.laws.promise_laws.Goals as goal

pub returns : goal.returns
returns g c =
    let kind = g.K.Proposal.kind in
    let rule = c.rule_laws.ensures in
    let boxes = c.box_follows_rule.ensures in
    record {
      promised = λ n t places m proposals s formed made past_end calls.
          let kept = calls_kept kind rule.coming rule.past boxes.begins boxes.follows n t places m proposals s formed made past_end calls in
          record {
            follows = follows kind m.posted _ _ kept;
            one_ring = rings_once kind m.posted _ _ rule.agree boxes.begins boxes.rests boxes.sent kept;
            orders = orders_once kind n t places m proposals s made calls;
          };
    }
