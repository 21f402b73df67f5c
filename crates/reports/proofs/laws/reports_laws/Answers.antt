use Rattle.reports.proofs.LineLengths.{report_length, refusal_length, examples}
use Rattle.reports.proofs.laws.reports_laws.Goals as goal

pub returns-clause-report : goal.returns-clause-report
returns-clause-report g c = let laws = g.met.K.Proposal.lawful in report_length g.K.Proposal.kind laws

pub returns-clause-refusal : goal.returns-clause-refusal
returns-clause-refusal g c = refusal_length

pub returns-clause-examples : goal.returns-clause-examples
returns-clause-examples g c = examples
