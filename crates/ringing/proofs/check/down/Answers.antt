use Rattle.std.proofs.Common.{ltb, arith}
use Rattle.std.proofs.lemmas.Bool.Decides.{nat_tests}
use Rattle.sets.specs.Masks.{member}
use Rattle.sets.proofs.MemberLemmas.{difference_of, member_is}
use Rattle.ringing.proofs.check.down.Goals as goal

pub returns : goal.returns
returns g c =
    let m = g.W.Wire.meaning c.args.wire.now in
    difference_of (λ i. ltb i m.n) (member m.up) _ _ c.difference.result c.difference.ensures
    (λ i l. let x = member_is _ c.all_below.result c.all_below.ensures i l in grind (arith, nat_tests, c.n.ensures))
    (λ i _. grind (arith, c.up.ensures))
