use Rattle.std.proofs.Common.{◌≡◌, ◌^◌, ◌<◌, true, not, ◌&&◌, ◌||◌, eqb, sym, ◌∙◌, subst, arith}
use Rattle.std.proofs.lemmas.Bool.Decides.{nat_tests}
use Rattle.base.specs.Counts.{any}
use Rattle.sets.specs.Masks.{member}
use Rattle.ringing.proofs.WireSets.{misses_up}
use Rattle.ringing.proofs.ringing.Ringing.is_own.Goals as goal

pub returns-then-closed-self : goal.returns-then-closed-self
returns-then-closed-self g c =
    let m = g.W.Wire.meaning c.args.self.now.wire in
    let b = c.args.b.held in
    let n : b.n ≡ m.n = grind arith in
    let same = misses_up m (g.met.W.Wire.formed c.args.self.now.wire) b.missing c.down.result c.down.ensures (subst (λ k. b.missing.mask < 2 ^ k) n c.args.b.within) in
    let subset = c.is_subset.ensures in
    let number : eqb b.number.0 c.args.p.0 ≡ true = grind (arith, nat_tests) in
    let limits : eqb b.n m.n ≡ true = grind (arith, nat_tests) in
    let most : eqb b.t c.args.self.now.t ≡ true = grind (arith, nat_tests) in
    let rounds : eqb b.closed c.args.self.now.closed ≡ true = grind (arith, nat_tests) in
    subset ∙ (λ j. not (any (λ i. member (c.missing.ensures j) i && not (member c.down.result i)) 32))
    ∙ λ j. not (not (sym number j && sym limits j && sym most j && sym rounds j) || same j)
