use Rattle.std.proofs.Common.{◌<◌, take, Ok, refl, sym, ap, ◌∙◌, arith}
use Rattle.std.specs.Result.{result_map_both, result_unwrap_or}
use Rattle.boxes.specs.BoxFaults.{refusal_of}
use Rattle.boxes.specs.BoxRounds.{on_hear}
use Rattle.wire.specs.WireState.{heard_frame}
use Rattle.ringing.specs.Exchanges.{notes_when_told}
use Rattle.ringing.proofs.FetchInRoom.{fetched_never, fetched_none, fetched_some, taken_length, told_again, kept_again}
use Rattle.ringing.proofs.exchange.hear_box.Goals as goal

pub returns-in_err-length : goal.returns-in_err-length
returns-in_err-length g c =
    let m = g.W.Wire.meaning c.args.wire.now in
    let never = λ (l : c.args.listening.now.resting.held.number.0 < m.n).
    fetched_never m (g.met.W.Wire.formed c.args.wire.now) c.number.result.0 c.args.q.0 c.args.line.now c.fetch.new.out c.fetch.result c.requires.sender c.requires.room
    c.fetch.ensures.answer c.fetch.ensures.bytes c.in_err-length.field-0.0 (omega (arith, l, ap (λ x. x.0) c.number.ensures)) c.in_err-length.was in
    record { resting = refl; answer = λ l. absurd (never l); notes = λ l. absurd (never l) }

pub slice_bounds-tell-end : goal.slice_bounds-tell-end
slice_bounds-tell-end g c =
    let m = g.W.Wire.meaning c.args.wire.now in
    let f = fetched_some m (g.met.W.Wire.formed c.args.wire.now) c.number.result.0 c.args.q.0 c.args.line.now c.fetch.new.out c.fetch.result c.requires.sender c.requires.room
    c.fetch.ensures.answer c.fetch.ensures.bytes c.in-Some.length (c.in_ok-length.was ∙ ap Ok c.in-Some.is) in
    f.0

pub slice_bounds-tell-end-in-Some : goal.slice_bounds-tell-end-in-Some
slice_bounds-tell-end-in-Some g c =
    let m = g.W.Wire.meaning c.args.wire.now in
    let f = fetched_some m (g.met.W.Wire.formed c.args.wire.now) c.number.result.0 c.args.q.0 c.args.line.now c.fetch.new.out c.fetch.result c.requires.sender c.requires.room
    c.fetch.ensures.answer c.fetch.ensures.bytes c.in-Some.length (c.in_ok-length.was ∙ ap Ok c.in-Some.is) in
    taken_length c.in-Some.length c.fetch.new.out f.0

pub returns-in-Some : goal.returns-in-Some
returns-in-Some g c =
    let m = g.W.Wire.meaning c.args.wire.now in
    let l = c.args.listening.now in
    let kind = g.K.Proposal.kind in
    let f = fetched_some m (g.met.W.Wire.formed c.args.wire.now) c.number.result.0 c.args.q.0 c.args.line.now c.fetch.new.out c.fetch.result c.requires.sender c.requires.room
    c.fetch.ensures.answer c.fetch.ensures.bytes c.in-Some.length (c.in_ok-length.was ∙ ap Ok c.in-Some.is) in
    let told = ap (notes_when_told kind l.resting.held l.notes) (ap (λ x. heard_frame m x.0 c.args.q.0) (sym c.number.ensures) ∙ f.1) in
    let h = on_hear kind l.resting.held l.notes (take c.in-Some.length c.fetch.new.out) in
    record {
      resting = c.tell.ensures.resting;
      answer = λ _. c.tell.ensures.answer ∙ told_again refusal_of h ∙ sym (ap (result_map_both (λ _. tt) (λ e. e)) told);
      notes = λ _. c.tell.ensures.notes ∙ kept_again refusal_of h l.notes ∙ sym (ap (λ r. result_unwrap_or r l.notes) told);
    }

pub returns-in-None : goal.returns-in-None
returns-in-None g c =
    let m = g.W.Wire.meaning c.args.wire.now in
    let l = c.args.listening.now in
    let f = fetched_none m (g.met.W.Wire.formed c.args.wire.now) c.number.result.0 c.args.q.0 c.args.line.now c.fetch.new.out c.fetch.result c.requires.sender c.requires.room
    c.fetch.ensures.answer c.fetch.ensures.bytes (c.in_ok-length.was ∙ ap Ok c.in-None.is) in
    let told = ap (notes_when_told g.K.Proposal.kind l.resting.held l.notes) (ap (λ x. heard_frame m x.0 c.args.q.0) (sym c.number.ensures) ∙ f) in
    record { resting = refl; answer = λ _. sym (ap (result_map_both (λ _. tt) (λ e. e)) told); notes = λ _. sym (ap (λ r. result_unwrap_or r l.notes) told) }
