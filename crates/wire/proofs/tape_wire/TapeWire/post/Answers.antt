use Rattle.std.proofs.Common.{length, set, ap, ◌∙◌, arith}
use Rattle.sets.specs.Masks.{member}
use Rattle.sets.proofs.MemberLemmas.{entering}
use Rattle.wire.specs.WireState.{with_posted}
use Rattle.wire.specs.PostedBytes.{span_at, tape_frame, HoldsFrame}
use Rattle.wire.specs.Wires.{tape_meaning}
use Rattle.wire.proofs.RosterLemmas.{kept_more}
use Rattle.wire.proofs.PostLemmas.{postable_length, posting_ok}
use Rattle.wire.proofs.TapeLemmas.{Appended, apart_more, filled_more, held_before, holds_more, kept_frame, new_frame, room_left, there}
use Rattle.wire.proofs.tape_wire.TapeWire.post.Goals as goal

pub returns-in_err-check_posting-clause-answer : goal.returns-in_err-check_posting-clause-answer
returns-in_err-check_posting-clause-answer c =
    let h = c.check_posting.ensures.answer (tape_frame c.args.self.now.spans c.args.self.now.frames.items) in
    grind arith

pub append-requires : goal.append-requires
append-requires c =
    let may = c.in_ok-check_posting.ensures in
    omega (arith, postable_length c.args.frame.now may.postable, room_left c.args.self.now c.args.q.0 may.company may.vacant)

pub invariant_of-self : goal.invariant_of-self
invariant_of-self c =
    let t = c.args.self.now in
    let r = t.roster in
    let q = c.args.q.0 in
    let f = c.args.frame.now in
    let s = c.append.result in
    let bytes = c.append.new.frames.items in
    let put = c.append.ensures in
    let may = c.in_ok-check_posting.ensures in
    let entry = c.enter_posted.ensures.posted in
    let P = member c.enter_posted.new.self.posted in
    let w : Appended t q f bytes s = record { listed = omega (arith, r.few, may.company); items = cc (put.items); start = omega arith; end = omega arith } in
    let more = entering r.n q r.posted c.enter_posted.new.self.posted r.few r.posted_within may.company entry in
    record {
      holds = kept_more r.n q r.posted c.enter_posted.new.self.posted r.few r.posted_within may.company entry
          (λ _. HoldsFrame (length bytes)) (span_at t.spans) (span_at (set t.spans q s)) (holds_more w may.postable) (λ i e _. (there w).1 i e) (held_before w);
      apart = apart_more w P more;
      filled = filled_more w P may.vacant (omega (arith, r.few, may.company)) more;
    }

pub returns-clause-meaning : goal.returns-clause-meaning
returns-clause-meaning c =
    let t = c.args.self.now in
    let q = c.args.q.0 in
    let f = c.args.frame.now in
    let s = c.append.result in
    let bytes = c.append.new.frames.items in
    let put = c.append.ensures in
    let may = c.in_ok-check_posting.ensures in
    let w : Appended t q f bytes s = record { listed = omega (arith, t.roster.few, may.company); items = cc (put.items); start = omega arith; end = omega arith } in
    c.enter_posted.ensures.meaning (tape_frame t.spans t.frames.items) (tape_frame (set t.spans q s) bytes) (kept_frame w)
    ∙ ap (λ g. with_posted q g (tape_meaning t)) (new_frame w)
    ∙ posting_ok q f (tape_meaning t) (may.answer (tape_frame t.spans t.frames.items))
