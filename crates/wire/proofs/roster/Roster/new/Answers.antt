use Rattle.std.proofs.Common.{◌≡◌, true, Ok, ap, refl, arith}
use Rattle.sets.specs.Companies.{is_company_size}
use Rattle.sets.proofs.MemberLemmas.{all_within, none_below}
use Rattle.wire.specs.WireState.{on_make}
use Rattle.wire.proofs.RosterLemmas.{absent, meaning_ext, none_if}
use Rattle.wire.proofs.roster.Roster.new.Goals as goal

pub invariant_of-result-clause-up_within : goal.invariant_of-result-clause-up_within
invariant_of-result-clause-up_within c = all_within c.args.n c.all_below.result c.all_below.ensures

pub invariant_of-result-clause-losing : goal.invariant_of-result-clause-losing
invariant_of-result-clause-losing c = λ q t. absent _ (grind arith) q t

pub invariant_of-result-clause-posted_within : goal.invariant_of-result-clause-posted_within
invariant_of-result-clause-posted_within c = none_below c.empty-3.result c.empty-3.ensures _

pub returns-clause-made : goal.returns-clause-made
unfolding on_make
returns-clause-made c = λ frames.
    let sized : is_company_size c.args.n ≡ true = grind arith in
    rw sized (ap Ok (meaning_ext _ _ refl c.all_below.ensures (λ q. none_if c.empty.result c.empty.ensures q _) (λ q. none_if c.empty-3.result c.empty-3.ensures q _)))
