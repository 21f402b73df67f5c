use Rattle.std.proofs.Common.{◌≡◌, ◌+◌, Ok, sym, ap, ◌∙◌, subst, arith}
use Rattle.std.specs.Bool.{⊤}
use Rattle.std.specs.Result.{result_map_both, result_unwrap_or}
use Rattle.boxes.specs.BoxRounds.{outcome}
use Rattle.ringing.proofs.HearOneByOne.{heard_below, ok_same, start, skips, tells_more, closed_so}
use Rattle.boxes.proofs.NotesShowFrames.{Shows}
use Rattle.ringing.proofs.exchange.close_box.Goals as goal
use Rattle.ringing.proofs.exchange.close_box.Goals.{then-q-number+in_ok-hear_box, else-q-number}

pub loop-q-init : goal.loop-q-init
loop-q-init g c =
    let kind = g.K.Proposal.kind in
    let laws = g.met.K.Proposal.lawful in
    let b = c.args.b in (
      c.open-listening.ensures.resting,
      λ s r at. subst (λ n. Shows kind b n (heard_below s b.held.number.0 0)) (sym c.open-listening.ensures.notes)
          (start kind laws.order (g.W.Wire.meaning c.args.wire.now) (g.met.W.Wire.formed c.args.wire.now) s r b at),
    )

pub returns-in_err-hear_box : goal.returns-in_err-hear_box
returns-in_err-hear_box g c = λ s r at.
    let kind = g.K.Proposal.kind in
    let laws = g.met.K.Proposal.lawful in
    let b = c.args.b in
    let l = c.loop-q.listening in
    let other : c.loop-q.q ≡ b.held.number.0 → ⊥ = λ e. c.if-q-number.true (e ∙ sym (ap (λ x. x.0) c.number.ensures)) in
    let more = tells_more kind laws.order (g.W.Wire.meaning c.args.wire.now) (g.met.W.Wire.formed c.args.wire.now) s r b at
    c.loop-q.q l.notes (omega (arith, c.n-q-end.ensures)) other (c.loop-q.invariant.1 s r at) l.resting c.loop-q.invariant.0 in
    let ok : c.hear_box.result ≡ Ok tt = (let told = c.hear_box.ensures.answer more.1 in let heard = ap (result_map_both {U = ⊤} (λ _. tt) (λ e. e)) more.2 in grind (arith, told, heard)) in
    absurd (grind (arith, ok, c.in_err-hear_box.was))

pub loop-q-preserved : goal.loop-q-preserved
loop-q-preserved g c =
    let kind = g.K.Proposal.kind in
    let laws = g.met.K.Proposal.lawful in
    let b = c.args.b in
    let l = c.loop-q.listening in
    elim c.if-q-number.branch [
      | then-q-number+in_ok-hear_box w ↦ (
          let other : c.loop-q.q ≡ b.held.number.0 → ⊥ = λ e. w.if-q-number.true (e ∙ sym (ap (λ x. x.0) c.number.ensures)) in (
            ap (λ x. x.resting) w.listening-is ∙ w.hear_box.ensures.resting ∙ c.loop-q.invariant.0,
            λ s r at.
                let more = tells_more kind laws.order (g.W.Wire.meaning c.args.wire.now) (g.met.W.Wire.formed c.args.wire.now) s r b at
                c.loop-q.q l.notes (omega (arith, c.n-q-end.ensures)) other (c.loop-q.invariant.1 s r at) l.resting c.loop-q.invariant.0 in
                subst (λ n. Shows kind b n (heard_below s b.held.number.0 (c.loop-q.q + 1))) (let is = ap (λ x. x.notes) w.listening-is in let told = w.hear_box.ensures.notes more.1 in let heard = ap (λ r. result_unwrap_or r l.notes) more.2 in grind (arith, is, told, heard)) more.3,
          ))
      | else-q-number w ↦ ((
        ap (λ x. x.resting) w.listening-is ∙ c.loop-q.invariant.0,
        λ s r at. subst (λ n. Shows kind b n (heard_below s b.held.number.0 (c.loop-q.q + 1))) (sym (ap (λ x. x.notes) w.listening-is))
            (skips kind laws.order (g.W.Wire.meaning c.args.wire.now) (g.met.W.Wire.formed c.args.wire.now) s r b at
            c.loop-q.q l.notes (w.if-q-number.false ∙ ap (λ x. x.0) c.number.ensures) (c.loop-q.invariant.1 s r at)),
      ))
    ]

pub returns-in-Ok : goal.returns-in-Ok
returns-in-Ok g c = λ s r at.
    let kind = g.K.Proposal.kind in
    let laws = g.met.K.Proposal.lawful in
    let so = closed_so kind laws.order (g.W.Wire.meaning c.args.wire.now) (g.met.W.Wire.formed c.args.wire.now) s r c.args.b at
    c.loop-q.listening c.loop-q.q c.close.result c.loop-q.invariant.0 (omega (arith, c.n-q-end.ensures)) (c.loop-q.invariant.1 s r at) c.close.ensures in
    ap Ok (ok_same _ _ _ (ap (result_map_both outcome (λ e. e)) c.in-Ok.is) so)

pub returns-in-Err : goal.returns-in-Err
returns-in-Err g c = λ s r at.
    let kind = g.K.Proposal.kind in
    let laws = g.met.K.Proposal.lawful in
    let so = closed_so kind laws.order (g.W.Wire.meaning c.args.wire.now) (g.met.W.Wire.formed c.args.wire.now) s r c.args.b at
    c.loop-q.listening c.loop-q.q c.close.result c.loop-q.invariant.0 (omega (arith, c.n-q-end.ensures)) (c.loop-q.invariant.1 s r at) c.close.ensures in
    absurd (grind (arith, so, c.in-Err.is))
