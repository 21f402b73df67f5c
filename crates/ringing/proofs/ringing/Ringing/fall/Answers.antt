use Rattle.std.proofs.Common.{ap, sym, ◌∙◌, ◌≡◌, arith}
use Rattle.sets.specs.Companies.{is_company}
use Rattle.machine.specs.FallCall.{on_fall}
use Rattle.base.specs.Results.{answer, or_kept}
use Rattle.promise.specs.CallSteps.{done_answer}
use Rattle.promise.proofs.CallAnswers.{done_of_answer}
use Rattle.ringing.specs.RingingStates.{state_of}
use Rattle.ringing.proofs.FallByExit.{told_ok, falls_size, not_refused}
use Rattle.ringing.proofs.ringing.Ringing.fall.Goals as goal

pub invariant_of-self : goal.invariant_of-self
invariant_of-self g c =
    let r = c.args.self.now in
    let m = g.W.Wire.meaning r.wire in
    let kept = falls_size c.args.q.0 c.args.lost m in
    let limits : (g.W.Wire.meaning c.fall.new.self).n ≡ m.n = grind (arith, c.fall.ensures.meaning, kept) in
    record { company = ap (λ n. is_company n r.t) limits ∙ r.company }

pub returns : goal.returns
returns g c =
    let r = c.args.self.now in
    let m = g.W.Wire.meaning r.wire in
    let s = state_of r c.args.row.now in
    let t = told_ok c.args.q c.args.lost s c.in_ok-check_fall.ensures in
    let told : c.fall.result ≡ answer (on_fall c.args.q c.args.lost s) = c.fall.ensures.answer ∙ ap answer t.1 ∙ sym (ap answer t.2) in
    record {
      answer = told;
      steps = (
        ap (done_answer {K = g.row.K.Denot}) told ∙ done_of_answer g.row.K.Denot (on_fall c.args.q c.args.lost s),
        ap (λ x. record s { wire = x }) (c.fall.ensures.meaning ∙ ap (or_kept m) t.1) ∙ sym (ap (or_kept s) t.2),
      );
      refused = not_refused _ c.fall.result (told ∙ ap answer t.2);
    }
