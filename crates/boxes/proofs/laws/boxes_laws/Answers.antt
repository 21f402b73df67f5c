use Rattle.boxes.proofs.SentFrame.{frame_short}
use Rattle.boxes.proofs.BoxLawProofs.{box_kept, listening_kept, rings_when, box_determined, listening_determined, notes_show, closes_by_rule, sent_told, told_more, order_free, composed_heard}
use Rattle.boxes.proofs.laws.boxes_laws.Goals as goal

pub returns : goal.returns
returns g c =
    let kind = g.K.Proposal.kind in
    let laws = g.met.K.Proposal.lawful in
    let frames = c.frames_laws.ensures in
    record {
      kept = box_kept;
      itself = listening_kept;
      rings = rings_when;
      determined = box_determined;
      listening = listening_determined;
      short = λ b. frame_short b kind laws.sized.1 frames.len;
      show = notes_show kind laws.order;
      closes = closes_by_rule kind laws.order;
      sent = sent_told kind frames.back;
      more = told_more kind;
      order = order_free kind laws.order;
      agree = composed_heard kind frames.back;
    }
