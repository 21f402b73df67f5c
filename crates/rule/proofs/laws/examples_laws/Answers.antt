use Rattle.rule.proofs.RunsComputed.{runs, rounds, nearly_right}
use Rattle.rule.proofs.laws.examples_laws.Goals as goal

pub returns : goal.returns
returns c = record { examples = (c.examples_laws.ensures.examples, runs, rounds, nearly_right) }
