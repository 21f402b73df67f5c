use Rattle.std.proofs.Common.{[], refl, arith}
use Rattle.wire.proofs.RosterLemmas.{absent, meaning_ext, none_if, staying_within, up_shown}
use Rattle.wire.proofs.roster.Roster.close.Goals as goal

pub returns-clause-meaning : goal.returns-clause-meaning
returns-clause-meaning c = λ frames.
    meaning_ext _ _ refl (cc (up_shown c.args.self.now frames)) (λ q. none_if c.empty-self.result c.empty-self.ensures q _) (λ _. refl)

pub invariant_of-self-clause-up_within : goal.invariant_of-self-clause-up_within
invariant_of-self-clause-up_within c = staying_within c.args.self.now (λ _. []) _ (cc (up_shown c.args.self.now (λ _. [])))

pub invariant_of-self-clause-losing : goal.invariant_of-self-clause-losing
invariant_of-self-clause-losing c = λ q t. absent _ (grind arith) q t
