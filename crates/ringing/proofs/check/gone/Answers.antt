use Rattle.std.proofs.Common.{ltb, not, ◌&&◌, ◌∙◌, arith}
use Rattle.std.proofs.lemmas.Bool.Decides.{nat_tests}
use Rattle.sets.specs.Masks.{member}
use Rattle.sets.proofs.BitLemmas.{set_ext}
use Rattle.sets.proofs.MemberLemmas.{member_is}
use Rattle.machine.specs.State.{is_gone}
use Rattle.ringing.proofs.WireSets.{falling_member}
use Rattle.ringing.proofs.check.gone.Goals as goal

pub returns : goal.returns
returns g c =
    let m = g.W.Wire.meaning c.args.wire.now in
    let w = g.met.W.Wire.formed c.args.wire.now in
    c.union.ensures
    ∙ set_ext _ (λ i. ltb i m.n && is_gone m i) (λ i l.
    let d = member_is (λ q. ltb q m.n && not (member m.up q)) c.down.result c.down.ensures i l in
    let f = falling_member m w c.falling.result c.falling.ensures i l in
    grind (arith, nat_tests))
