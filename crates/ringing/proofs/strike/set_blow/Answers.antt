use Rattle.std.proofs.Common.{map, ap, sym, ◌∙◌}
use Rattle.std.proofs.lemmas.Option.{slice_get_within}
use Rattle.machine.specs.declared.place.Place.TheVariants as place
use Rattle.machine.specs.Places.{place_state}
use Rattle.machine.specs.OrderCalls.{with_blow}
use Rattle.ringing.proofs.BlowWritten.{rung_place, blow_set, blow_kept}
use Rattle.ringing.proofs.strike.set_blow.Goals as goal

pub put-requires : goal.put-requires
put-requires g c =
    slice_get_within c.args.row.now c.args.p.0 (place.Rung c.in-Some.rung) (rung_place c.args.row.now c.args.p.0 c.in-Some.rung (sym c.rung_at.ensures ∙ c.in-Some.is))

pub returns-in-Some : goal.returns-in-Some
returns-in-Some g c = λ s is.
    let x = c.in-Some.rung in
    let there = rung_place c.args.row.now c.args.p.0 x (sym c.rung_at.ensures ∙ c.in-Some.is) in
    ap (map place_state) c.put.ensures ∙ blow_set c.args.row.now c.args.p.0 x c.args.blow there ∙ sym (ap (λ r. (with_blow c.args.blow c.args.p.0 (record s { row = r })).row) is)

pub returns-in_default : goal.returns-in_default
returns-in_default g c = λ s is.
    blow_kept c.args.row.now c.args.p.0 c.args.blow (sym c.rung_at.ensures ∙ c.in_default.is) ∙ sym (ap (λ r. (with_blow c.args.blow c.args.p.0 (record s { row = r })).row) is)
