use Rattle.std.proofs.Common.{length, refl, sym, ap, ◌∙◌, arith}
use Rattle.sets.specs.Companies.{is_company}
use Rattle.base.specs.Results.{or_kept}
use Rattle.ringing.specs.RingingStates.{state_of}
use Rattle.ringing.proofs.RoundByState.{state_same, played_ok, goes_on, rounds_fit}
use Rattle.ringing.proofs.ringing.Ringing.play.Goals as goal

pub overflow_add-self : goal.overflow_add-self
overflow_add-self g c =
    let kind = g.K.Proposal.kind in
    let r = c.args.self.now in
    let goes = goes_on kind c.machine_laws.ensures.goes (g.W.Wire.meaning r.wire) r.t r.closed c.args.row.now (length c.args.line.now) (g.met.W.Wire.formed r.wire) r.company c.in_ok-check_round.ensures in
    omega (arith, rounds_fit (g.W.Wire.meaning r.wire).n r.t r.closed r.company goes.ahead)

pub exchange_frames-requires : goal.exchange_frames-requires
exchange_frames-requires g c =
    let r = c.args.self.now in
    record { room = (played_ok g.K.Proposal.kind (length c.args.line.now) (state_of r c.args.row.now) c.in_ok-check_round.ensures).2 }

pub invariant_of-self : goal.invariant_of-self
invariant_of-self g c =
    let kind = g.K.Proposal.kind in
    let r = c.args.self.now in
    let goes = goes_on kind c.machine_laws.ensures.goes (g.W.Wire.meaning r.wire) r.t r.closed c.args.row.now (length c.args.line.now) (g.met.W.Wire.formed r.wire) r.company c.in_ok-check_round.ensures in
    record { company = ap (λ m. is_company m.n r.t) (c.exchange_frames.ensures (state_of r c.args.row.now) refl refl refl goes).1 ∙ r.company }

pub returns-in_err-exchange_frames : goal.returns-in_err-exchange_frames
returns-in_err-exchange_frames g c =
    let kind = g.K.Proposal.kind in
    let r = c.args.self.now in
    let goes = goes_on kind c.machine_laws.ensures.goes (g.W.Wire.meaning r.wire) r.t r.closed c.args.row.now (length c.args.line.now) (g.met.W.Wire.formed r.wire) r.company c.in_ok-check_round.ensures in
    absurd (let plays = (c.exchange_frames.ensures (state_of r c.args.row.now) refl refl refl goes).0 in grind (arith, plays, c.in_err-exchange_frames.was))

pub overflow_add-self-2 : goal.overflow_add-self-2
overflow_add-self-2 g c =
    let kind = g.K.Proposal.kind in
    let r = c.args.self.now in
    let goes = goes_on kind c.machine_laws.ensures.goes (g.W.Wire.meaning r.wire) r.t r.closed c.args.row.now (length c.args.line.now) (g.met.W.Wire.formed r.wire) r.company c.in_ok-check_round.ensures in
    omega (arith, rounds_fit (g.W.Wire.meaning r.wire).n r.t r.closed r.company goes.ahead)

pub invariant_of-self-2 : goal.invariant_of-self-2
invariant_of-self-2 g c =
    let kind = g.K.Proposal.kind in
    let r = c.args.self.now in
    let goes = goes_on kind c.machine_laws.ensures.goes (g.W.Wire.meaning r.wire) r.t r.closed c.args.row.now (length c.args.line.now) (g.met.W.Wire.formed r.wire) r.company c.in_ok-check_round.ensures in
    record { company = ap (λ m. is_company m.n r.t) (c.exchange_frames.ensures (state_of r c.args.row.now) refl refl refl goes).1 ∙ r.company }

pub returns-clause-state : goal.returns-clause-state
returns-clause-state g c =
    let kind = g.K.Proposal.kind in
    let r = c.args.self.now in
    let goes = goes_on kind c.machine_laws.ensures.goes (g.W.Wire.meaning r.wire) r.t r.closed c.args.row.now (length c.args.line.now) (g.met.W.Wire.formed r.wire) r.company c.in_ok-check_round.ensures in
    let s = state_of r c.args.row.now in
    let plays = c.exchange_frames.ensures s refl refl refl goes in
    state_same plays.1 refl (omega arith) plays.2 ∙ sym (ap (or_kept s) (played_ok kind (length c.args.line.now) s c.in_ok-check_round.ensures).3)
