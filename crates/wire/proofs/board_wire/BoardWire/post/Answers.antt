use Rattle.std.proofs.Common.{◌≡◌, true, ap, ◌∙◌, set, arith}
use Rattle.wire.specs.Postable.{is_postable}
use Rattle.wire.specs.PostedBytes.{line_frame}
use Rattle.wire.specs.WireState.{with_posted}
use Rattle.wire.specs.Wires.{board_meaning}
use Rattle.wire.proofs.RosterLemmas.{kept_more}
use Rattle.wire.proofs.PostLemmas.{line_replaced, posting_ok}
use Rattle.wire.proofs.board_wire.BoardWire.post.Goals as goal

pub invariant_of-self : goal.invariant_of-self
invariant_of-self c =
    let b = c.args.self.now in
    let r = b.roster in
    let q = c.args.q.0 in
    let after = set b.lines q c.unwrap.result in
    let may = c.in_ok-check_posting.ensures in
    let at = line_replaced b.lines q c.unwrap.result (omega (arith, r.few, may.company)) in
    let is : line_frame after q ≡ c.args.frame.now = grind (arith, at.0) in
    record {
      postable = kept_more r.n q r.posted c.enter_posted.new.self.posted r.few r.posted_within may.company c.enter_posted.ensures.posted
          (λ _ f. is_postable f ≡ true) (line_frame b.lines) (line_frame after) (ap is_postable is ∙ may.postable) (λ i e _. at.1 i e) b.postable;
    }

pub returns-clause-meaning : goal.returns-clause-meaning
returns-clause-meaning c =
    let b = c.args.self.now in
    let q = c.args.q.0 in
    let f = c.args.frame.now in
    let after = set b.lines q c.unwrap.result in
    let may = c.in_ok-check_posting.ensures in
    let at = line_replaced b.lines q c.unwrap.result (omega (arith, b.roster.few, may.company)) in
    let is : line_frame after q ≡ f = grind (arith, at.0) in
    let posts = c.enter_posted.ensures.meaning (line_frame b.lines) (line_frame after) (λ i e _. at.1 i e) in
    posts ∙ ap (λ g. with_posted q g (board_meaning b)) is ∙ posting_ok q f (board_meaning b) (may.answer (line_frame b.lines))
