use Rattle.std.proofs.Common.{arith}
use Rattle.std.proofs.lemmas.Bool.Decides.{nat_tests}
use Rattle.wire.specs.WireState.{on_fall}
use Rattle.ringing.proofs.WireSets.{falling_member}
use Rattle.ringing.proofs.check.check_wire_fall.Goals as goal

pub returns-then-not-contains : goal.returns-then-not-contains
unfolding on_fall
returns-then-not-contains g c =
    let m = g.W.Wire.meaning c.args.wire.now in
    let w = g.met.W.Wire.formed c.args.wire.now in
    let f = falling_member m w in
    grind (arith, nat_tests)

pub returns : goal.returns
unfolding on_fall
returns g c =
    let m = g.W.Wire.meaning c.args.wire.now in
    let w = g.met.W.Wire.formed c.args.wire.now in
    let f = falling_member m w in
    grind (arith, nat_tests)
