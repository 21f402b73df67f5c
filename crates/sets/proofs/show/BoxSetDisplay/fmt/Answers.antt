use Rattle.std.proofs.Common.{[], codes, sym, refl, ap}
use Rattle.std.proofs.Output.{writes_in_calls_nil}
use Rattle.base.specs.Counts.{any}
use Rattle.sets.specs.Masks.{member}
use Rattle.sets.specs.SetTexts.{list_text}
use Rattle.sets.proofs.TextLemmas.{listed_skip, listed_take}
use Rattle.sets.proofs.show.BoxSetDisplay.fmt.Goals as goal
use Rattle.sets.proofs.show.BoxSetDisplay.fmt.Goals.{then-contains+in_ok-write-2, else-contains}

pub loop-i-init : goal.loop-i-init
unfolding any list_text
loop-i-init g c = (([], (refl, refl)), (refl, λ p. record { wrote = writes_in_calls_nil g.W.Write.write_str_gives _; plain = p }))

pub loop-i-preserved : goal.loop-i-preserved
unfolding lib.Utf8.encode
loop-i-preserved g c =
    let took = g.W.Write.write_str_gives in
    let P = member c.args.self.now in
    let i = c.loop-i.i-counter in
    elim c.if-contains.branch [
      | then-contains+in_ok-write-2 w ↦
          rw (ap (λ z. z.now) w.separator-is) (
            (codes ", ", (refl, refl)),
            listed_take took P c.write.new.self i c.loop-i.separator.now c.loop-i.f c.loop-i.invariant.1 c.if-contains.f w.write-then-contains.new.self
                (sym w.if-contains.ensures) (λ p. w.in_ok-write-2.ensures.writes p refl) w.f-is,
          )
      | else-contains w ↦
          rw (ap (λ z. z.now) w.separator-is)
          (c.loop-i.invariant.0, listed_skip took P c.write.new.self i c.loop-i.separator.now c.loop-i.f c.loop-i.invariant.1 c.if-contains.f (sym w.if-contains.ensures) w.f-is)
    ]
