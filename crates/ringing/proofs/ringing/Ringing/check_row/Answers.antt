use Rattle.std.proofs.Common.{◌≡◌, false, cond, length, [], Ok, Err, Some, refl, sym, ap, ◌∙◌, below_more, arith}
use Rattle.std.specs.List.{slice_get}
use Rattle.std.proofs.lemmas.Bool.Decides.{nat_tests}
use Rattle.std.proofs.lemmas.Option.{slice_get_read, slice_get_within}
use Rattle.base.specs.declared.refusal.Refusal.TheVariants.{Row}
use Rattle.machine.specs.declared.place.Place.{Place}
use Rattle.machine.specs.Places.{place_state}
use Rattle.machine.specs.RowCheck.{is_misplaced}
use Rattle.ringing.specs.RingingStates.{state}
use Rattle.ringing.proofs.RowRefused.{not_true, not_false, gone_counted, short_bad, gone_bad, place_bad, row_good}
use Rattle.ringing.proofs.ringing.Ringing.check_row.Goals as goal
use Rattle.ringing.proofs.ringing.Ringing.check_row.Goals.{then-row-n-via-then-row-n, then-row-n-via-else-row-n+then-count-self}

pub returns-then-row-n : goal.returns-then-row-n
returns-then-row-n g c =
    let m = g.W.Wire.meaning c.args.self.now.wire in
    let r = c.args.self.now in
    let f = g.met.W.Wire.formed r.wire in
    ap (λ b. cond b (Err Row) (Ok tt)) (sym (elim c.then-row-n.branch [
      | then-row-n-via-then-row-n w ↦ short_bad m r.t r.closed c.args.row.now (grind (arith, nat_tests, w.if-row-n.true, c.n.ensures))
      | then-row-n-via-else-row-n+then-count-self w ↦ gone_bad m r.t r.closed c.args.row.now (let k = gone_counted m f w.gone.result w.gone.ensures in grind (arith, nat_tests, w.count.ensures, w.if-count-self.true))
    ]))

pub returns-then-not-may_stand : goal.returns-then-not-may_stand
returns-then-not-may_stand g c =
    let m = g.W.Wire.meaning c.args.self.now.wire in
    let r = c.args.self.now in
    ap (λ b. cond b (Err Row) (Ok tt)) (sym (place_bad m r.t r.closed c.args.row.now c.loop-p.p c.index-row-p.result
    (slice_get_read c.args.row.now (length c.args.row.now) c.loop-p.p c.index-row-p.result refl c.loop-p-test.true c.index-row-p.is)
    (not_false _ _ c.may_stand.ensures c.if-not-may_stand.true)))

pub loop-p-preserved : goal.loop-p-preserved
loop-p-preserved g c = λ k x l at.
    let m = g.W.Wire.meaning c.args.self.now.wire in
    let r = c.args.self.now in
    let row = c.args.row.now in
    let here = slice_get_read row (length row) c.loop-p.p c.index-row-p.result refl c.loop-p-test.true c.index-row-p.is in
    below_more (λ k. (x : Place g.row.K.Denot) → slice_get row k ≡ Some x → is_misplaced (state m r.t r.closed []) k (place_state x) ≡ false) c.loop-p.p (λ k l x at. c.loop-p.invariant k x l at)
    (λ x at. let same : c.index-row-p.result ≡ x = cc in ap (λ y. is_misplaced (state m r.t r.closed []) c.loop-p.p (place_state y)) (sym same) ∙ not_true _ _ c.may_stand.ensures c.if-not-may_stand.false)
    k l x at

pub returns : goal.returns
returns g c =
    let m = g.W.Wire.meaning c.args.self.now.wire in
    let r = c.args.self.now in
    let f = g.met.W.Wire.formed r.wire in
    let k = gone_counted m f c.gone.result c.gone.ensures in
    ap (λ b. cond b (Err Row) (Ok tt)) (sym (row_good m r.t r.closed c.args.row.now (grind (arith, nat_tests, c.n.ensures)) (grind (arith, nat_tests, c.count.ensures)) (λ p x at. c.loop-p.invariant p x (let l = slice_get_within c.args.row.now p x at in omega arith) at)))
