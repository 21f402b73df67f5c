use Rattle.std.proofs.Common.{◌≡◌, true, false, ap, arith}
use Rattle.std.proofs.lemmas.Bool.Decides.{nat_tests}
use Rattle.base.specs.Counts.{any}
use Rattle.machine.specs.State.{is_gone}
use Rattle.machine.specs.MakeCall.{bad_wire, on_make}
use Rattle.ringing.proofs.WireSets.{some_gone}
use Rattle.ringing.proofs.make.check_make.Goals as goal
use Rattle.ringing.proofs.make.check_make.Goals.{then-n-via-then-n, then-n-via-else-n+then-ne}

pub returns-then-n : goal.returns-then-n
unfolding on_make
returns-then-n g c =
    let m = g.W.Wire.meaning c.args.wire.now in
    let bad : bad_wire c.args.n m ≡ true = elim c.then-n.branch [
      | then-n-via-then-n w ↦ (grind (arith, nat_tests, w.if-n.true, c.n.ensures))
      | then-n-via-else-n+then-ne w ↦ (let n : m.n ≡ c.args.n = grind (arith, nat_tests, w.if-n.false, c.n.ensures) in
          let s = some_gone m (g.met.W.Wire.formed c.args.wire.now) w.gone.result w.empty.result w.gone.ensures w.empty.ensures in
          let k : any (is_gone m) c.args.n ≡ true = (let a = ap (any (is_gone m)) n in grind (arith, a, s, w.ne.ensures, w.if-ne.true)) in
          grind arith)
    ] in
    grind (arith, nat_tests)

pub returns : goal.returns
unfolding on_make
returns g c =
    let m = g.W.Wire.meaning c.args.wire.now in
    let n : m.n ≡ c.args.n = grind (arith, nat_tests, c.n.ensures) in
    let s = some_gone m (g.met.W.Wire.formed c.args.wire.now) c.gone.result c.empty.result c.gone.ensures c.empty.ensures in
    let k : any (is_gone m) c.args.n ≡ false = (let a = ap (any (is_gone m)) n in grind (arith, a, s, c.ne.ensures, c.if-ne.false)) in
    grind (arith, nat_tests)
