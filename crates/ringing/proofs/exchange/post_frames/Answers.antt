use Rattle.std.proofs.Common.{◌≡◌, length, Ok, Some, refl, sym, ap, ◌∙◌, arith}
use Rattle.std.proofs.lemmas.List.{length-map}
use Rattle.frames.specs.Frames.{frame_bytes}
use Rattle.boxes.specs.Boxes.{frame_of}
use Rattle.wire.specs.WireState.{on_post}
use Rattle.base.specs.Results.{answer, or_kept}
use Rattle.machine.specs.Places.{place_state}
use Rattle.machine.specs.RoundCall.{frame_at}
use Rattle.ringing.proofs.PostOneByOne.{posted_below, stands_at, not_resting, nobody_yet, none_more, posts_one, all_posted}
use Rattle.ringing.proofs.exchange.post_frames.Goals as goal
use Rattle.ringing.proofs.exchange.post_frames.Goals.{in-Resting+in_ok-post_frame, in_default}

pub loop-place-init : goal.loop-place-init
loop-place-init g c = λ s wire row goes none.
    let kind = g.K.Proposal.kind in
    sym wire ∙ nobody_yet kind s goes none

pub returns-in_err-post_frame : goal.returns-in_err-post_frame
returns-in_err-post_frame g c = λ s wire row goes none.
    let kind = g.K.Proposal.kind in
    let i = c.loop-place.place-index in
    let b = c.in-Resting.b.held in
    let at = stands_at s.row c.args.row.now row i c.place-item.result c.loop-place-test.true c.place-item.is ∙ ap (λ x. Some (place_state x)) c.in-Resting.is in
    let posts = posts_one kind s goes none i b at in
    let ok : c.post_frame.result ≡ Ok tt =
    c.post_frame.ensures.answer ∙ ap (λ m. answer (on_post b.number.0 (frame_bytes kind (frame_of b)) m)) (c.loop-place.invariant s wire row goes none) ∙ ap answer posts in
    absurd (grind (arith, ok, c.in_err-post_frame.was))

pub loop-place-preserved : goal.loop-place-preserved
loop-place-preserved g c = λ s wire row goes none.
    let kind = g.K.Proposal.kind in
    let i = c.loop-place.place-index in
    let at = stands_at s.row c.args.row.now row i c.place-item.result c.loop-place-test.true c.place-item.is in
    let before = c.loop-place.invariant s wire row goes none in
    elim c.match-place.branch [
      | in-Resting+in_ok-post_frame w ↦ (
          let b = w.in-Resting.b.held in
          let posts = posts_one kind s goes none i b (at ∙ ap (λ x. Some (place_state x)) w.in-Resting.is) in
          ap g.W.Wire.meaning w.wire-is ∙ w.post_frame.ensures.meaning ∙ ap (λ m. or_kept m (on_post b.number.0 (frame_bytes kind (frame_of b)) m)) before
          ∙ ap (or_kept (posted_below kind s goes none i)) posts)
      | in_default w ↦ (
          ap g.W.Wire.meaning w.wire-is ∙ before ∙ none_more kind s goes none i (ap frame_at at ∙ not_resting c.place-item.result w.in_default.not-Resting))
    ]

pub returns : goal.returns
returns g c = λ s wire row goes none.
    let kind = g.K.Proposal.kind in
    (refl, c.loop-place.invariant s wire row goes none ∙ all_posted kind s goes none c.loop-place.place-index (ap length row ∙ length-map c.args.row.now place_state ∙ omega arith))
