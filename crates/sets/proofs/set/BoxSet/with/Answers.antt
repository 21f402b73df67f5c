-- What `union` and `only` give, bit by bit.
use Rattle.std.proofs.Common.{ap, ◌∙◌, arith}
use Rattle.std.specs.Prelude.{nat_eq}
use Rattle.std.proofs.lemmas.Bool.Decides.{nat_tests}
use Rattle.sets.specs.Masks.{member}
use Rattle.sets.proofs.BitLemmas.{bit-mask_of, set_ext}
use Rattle.sets.proofs.set.BoxSet.with.Goals as goal

pub returns : goal.returns
returns c =
    c.union.ensures
    ∙ set_ext _ _ (λ i l.
    let one = ap (λ s. member s i) c.only.ensures in
    let made = bit-mask_of (λ k. nat_eq k c.args.q.0) 32 i in
    grind (arith, nat_tests))
