use Rattle.std.proofs.Common.{refl}
use Rattle.sets.proofs.MemberLemmas.{none_below}
use Rattle.wire.proofs.RosterLemmas.{meaning_ext, none_if}
use Rattle.wire.proofs.roster.Roster.open.Goals as goal

pub returns-clause-meaning : goal.returns-clause-meaning
returns-clause-meaning c = λ frames. meaning_ext _ _ refl refl (λ _. refl) (λ q. none_if c.empty-self.result c.empty-self.ensures q _)

pub invariant_of-self-clause-posted_within : goal.invariant_of-self-clause-posted_within
invariant_of-self-clause-posted_within c = none_below c.empty-self.result c.empty-self.ensures _
