use Rattle.rule.proofs.BoxFollowsRule.{begins, rests_there, is_admitted, follows}
use Rattle.rule.proofs.ToldInAnyOrder.{told_follows}
use Rattle.rule.proofs.SentAreHeard.{sent_follows}
use Rattle.rule.proofs.laws.box_follows_rule.Goals as goal

pub returns : goal.returns
returns g c =
    let kind = g.K.Proposal.kind in
    let boxes = c.boxes_laws.ensures in
    record {
      begins = λ h. begins h kind;
      rests = λ h. rests_there h kind;
      admits = λ h allowed. is_admitted h kind allowed;
      follows = λ h. follows h kind;
      told = λ h allowed p r l d. told_follows h kind allowed p r l d boxes.closes;
      sent = λ h allowed p r l d. sent_follows h kind p r boxes.sent boxes.closes allowed l d;
    }
