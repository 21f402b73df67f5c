use Rattle.proposals.proofs.ForemostLemmas.{foremost_leads, foremost_only}
use Rattle.proposals.proofs.laws.proposals_laws.Goals as goal

pub returns-clause-leads : goal.returns-clause-leads
returns-clause-leads g c = foremost_leads g.K.Proposal.kind.leads g.met.K.Proposal.lawful.order

pub returns-clause-only : goal.returns-clause-only
returns-clause-only g c = foremost_only g.K.Proposal.kind.leads g.met.K.Proposal.lawful.order
