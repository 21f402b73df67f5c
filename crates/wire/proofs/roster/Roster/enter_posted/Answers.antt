use Rattle.std.proofs.Common.{refl}
use Rattle.sets.proofs.MemberLemmas.{entered_within}
use Rattle.wire.proofs.RosterLemmas.{entered, meaning_ext}
use Rattle.wire.proofs.roster.Roster.enter_posted.Goals as goal

pub invariant_of-self-clause-posted_within : goal.invariant_of-self-clause-posted_within
invariant_of-self-clause-posted_within c =
    let r = c.args.self.now in
    entered_within r.n c.args.q.0 r.posted c.with-self.result r.few r.posted_within c.requires c.with-self.ensures

pub returns-clause-meaning : goal.returns-clause-meaning
returns-clause-meaning c = λ before after other.
    let r = c.args.self.now in
    let q = c.args.q.0 in
    let there = entered r.n q r.posted c.with-self.result r.few r.posted_within c.requires c.with-self.ensures before after (after q) refl other in
    meaning_ext _ _ refl refl (λ _. refl) there
