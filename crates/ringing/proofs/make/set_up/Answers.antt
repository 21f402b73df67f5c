use Rattle.std.proofs.Common.{length, map, refl, ap, ◌∙◌, arith}
use Rattle.std.specs.List.{slice_get}
use Rattle.std.proofs.lemmas.Option.{slice_get_read}
use Rattle.sets.specs.Companies.{is_company}
use Rattle.machine.specs.declared.place.Place.TheVariants as place
use Rattle.machine.specs.Places.{at_rest, place_state}
use Rattle.ringing.proofs.MakeAccepted.{makes, held_made, never_refused, filled_more, filled_all}
use Rattle.ringing.proofs.make.set_up.Goals as goal

pub overflow_cast-p : goal.overflow_cast-p
overflow_cast-p g c =
    let k = makes c.args.n c.args.t (g.W.Wire.meaning c.args.wire.now) (length c.args.row.now) c.args.proposals.now c.in_ok-check_make.ensures in
    omega (arith, k.given, c.ranges.n.fits)

pub returns-in_err-resting : goal.returns-in_err-resting
returns-in_err-resting g c =
    let k = makes c.args.n c.args.t (g.W.Wire.meaning c.args.wire.now) (length c.args.row.now) c.args.proposals.now c.in_ok-check_make.ensures in
    never_refused c.args.n c.args.t c.loop-p.p c.index-proposals-p.result c.in_err-resting.field-0.0 k.size (omega (arith, k.given))
    (grind (arith, c.in_err-resting.was, c.new.ensures))

pub put-requires : goal.put-requires
put-requires g c =
    let k = makes c.args.n c.args.t (g.W.Wire.meaning c.args.wire.now) (length c.args.row.now) c.args.proposals.now c.in_ok-check_make.ensures in
    omega (arith, k.given, k.places_are)

pub loop-p-preserved : goal.loop-p-preserved
loop-p-preserved g c =
    let k = makes c.args.n c.args.t (g.W.Wire.meaning c.args.wire.now) (length c.args.row.now) c.args.proposals.now c.in_ok-check_make.ensures in
    let b = c.in_ok-resting.resting in
    let held = held_made c.args.n c.args.t c.loop-p.p c.index-proposals-p.result b.held k.size (omega (arith, k.given)) (grind (arith, c.in_ok-resting.was, c.new.ensures)) in
    λ i l. ap (λ row. slice_get (map place_state row) i) c.put.ensures
    ∙ filled_more c.args.n c.args.t c.args.proposals.now c.loop-p.row c.loop-p.p (place.Resting b) c.index-proposals-p.result (omega (arith, k.given, k.places_are))
    (slice_get_read c.args.proposals.now (length c.args.proposals.now) c.loop-p.p c.index-proposals-p.result refl c.loop-p-test.true c.index-proposals-p.is)
    (ap at_rest held) c.loop-p.invariant i l

pub returns-clause-row : goal.returns-clause-row
returns-clause-row g c =
    let k = makes c.args.n c.args.t (g.W.Wire.meaning c.args.wire.now) (length c.args.row.now) c.args.proposals.now c.in_ok-check_make.ensures in
    filled_all c.args.n c.args.t c.args.proposals.now c.loop-p.row (omega (arith, k.places_are)) k.given (λ i l. c.loop-p.invariant i (omega (arith, k.given)))

pub returns-clause-company : goal.returns-clause-company
returns-clause-company g c =
    let k = makes c.args.n c.args.t (g.W.Wire.meaning c.args.wire.now) (length c.args.row.now) c.args.proposals.now c.in_ok-check_make.ensures in
    ap (λ n. is_company n c.args.t) k.wire_n ∙ k.size
