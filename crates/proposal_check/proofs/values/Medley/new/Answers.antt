use Rattle.std.proofs.Common.{◌≡◌, sym, ap, length, nat_lt, arith, rules, tests}
use Rattle.std.proofs.lemmas.Bool.Decides.{nat_tests}
use Rattle.std.proofs.lemmas.Iterator.{YieldsList-from_slice}
use Rattle.std.proofs.lemmas.Iterator.Search.{all_from_yields_List}
use Rattle.std.specs.Option.{ok_or}
use Rattle.base.specs.Limits.{image_limit}
use Rattle.base.specs.declared.refusal.Refusal.TheVariants.{Image}
use Rattle.proposal_check.specs.MedleyLemmas.{medley_back}
use Rattle.proposal_check.proofs.TuneLemmas.{none_named}
use Rattle.proposal_check.proofs.values.Medley.new.Goals as goal

pub invariant_of-result : goal.invariant_of-result
invariant_of-result c =
    let is = all_from_yields_List (λ n. nat_lt n image_limit) _ _ c.all.result c.all.ensures.ran (YieldsList-from_slice c.args.tunes cc) (λ x b q k. search (rules, tests)) in
    let long : length c.args.tunes ≡ 4 = search rules in
    record { limits = grind (arith, nat_tests) }

pub returns-then-all : goal.returns-then-all
returns-then-all c = sym (ap (λ o. ok_or o Image) (medley_back _))

pub returns-else-all : goal.returns-else-all
returns-else-all c =
    let is = all_from_yields_List (λ n. nat_lt n image_limit) _ _ c.all.result c.all.ensures.ran (YieldsList-from_slice c.args.tunes cc) (λ x b q k. search (rules, tests)) in
    sym (ap (λ o. ok_or o Image) (none_named c.args.tunes (grind (arith, nat_tests))))
