use Rattle.script_play.proofs.EntryLemmas.{entries_count}
use Rattle.script_play.proofs.CallByCall.{script_plays}
use Rattle.script_play.proofs.AnswersComputed.{examples}
use Rattle.script_play.proofs.laws.play_laws.Goals as goal

pub returns-clause-plays : goal.returns-clause-plays
returns-clause-plays g c =
    let kind = g.K.Proposal.kind in
    let rule = c.rule_laws.ensures in
    script_plays kind rule.agree rule.remains rule.past rule.coming
    (λ n t places m proposals s formed made past_end calls. (c.promise_laws.ensures.promised n t places m proposals s formed made past_end calls).follows)

pub returns-clause-entries : goal.returns-clause-entries
returns-clause-entries g c = entries_count

pub returns-clause-examples : goal.returns-clause-examples
returns-clause-examples g c = examples
