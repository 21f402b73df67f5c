use Rattle.std.proofs.Common.{arith}
use Rattle.frames.proofs.FrameRoundTrip.{frame_back, frame_only, frame_number, frame_image, frame_surplus, frame_length}
use Rattle.frames.proofs.laws.frames_laws.Goals as goal

pub returns : goal.returns
returns g c =
    let kind = g.K.Proposal.kind in
    let laws = g.met.K.Proposal.lawful in
    record {
      room = omega arith;
      back = frame_back kind laws;
      only = frame_only kind laws;
      number = frame_number kind;
      image = frame_image kind;
      surplus = frame_surplus kind laws;
      len = frame_length kind laws;
    }
