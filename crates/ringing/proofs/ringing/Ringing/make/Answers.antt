use Rattle.base.specs.Results.{refused_with}
use Rattle.std.proofs.Common.{length, Ok, sym, ap, ◌∙◌, arith, refl}
use Rattle.base.specs.Results.{map_fault}
use Rattle.machine.specs.MakeCall.{on_make}
use Rattle.ringing.proofs.RoundByState.{state_same}
use Rattle.ringing.proofs.MakeAccepted.{makes, makes_not, if_made}
use Rattle.ringing.proofs.ringing.Ringing.make.Goals as goal

pub returns-in-Ok-clause-answer : goal.returns-in-Ok-clause-answer
returns-in-Ok-clause-answer g c =
    let m = g.W.Wire.meaning c.args.wire in
    let k = makes c.args.n c.args.t m (length c.args.row.now) c.args.proposals.now c.in-Ok.ensures.answer in
    ap Ok (state_same refl refl (omega arith) c.in-Ok.ensures.row) ∙ sym (ap (map_fault (refused_with c.args.wire)) k.made)

pub returns-in-Err-clause-answer : goal.returns-in-Err-clause-answer
returns-in-Err-clause-answer g c =
    let m = g.W.Wire.meaning c.args.wire in
    sym (ap (map_fault (refused_with c.args.wire)) (makes_not c.args.n c.args.t m (length c.args.row.now) c.args.proposals.now c.in-Err.fault c.in-Err.ensures.answer))

pub returns-in-Ok-clause-promised : goal.returns-in-Ok-clause-promised
returns-in-Ok-clause-promised g c =
    let m = g.W.Wire.meaning c.args.wire in
    if_made _ (on_make c.args.n c.args.t m (length c.args.row.now) c.args.proposals.now) (λ s made.
    c.promise_laws.ensures.promised c.args.n c.args.t (length c.args.row.now) m c.args.proposals.now s (g.met.W.Wire.formed c.args.wire) made)

pub returns-in-Err-clause-promised : goal.returns-in-Err-clause-promised
returns-in-Err-clause-promised g c =
    let m = g.W.Wire.meaning c.args.wire in
    if_made _ (on_make c.args.n c.args.t m (length c.args.row.now) c.args.proposals.now) (λ s made.
    c.promise_laws.ensures.promised c.args.n c.args.t (length c.args.row.now) m c.args.proposals.now s (g.met.W.Wire.formed c.args.wire) made)
