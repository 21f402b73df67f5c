use Rattle.machine.proofs.PlaceDetermined.{row_determined}
use Rattle.machine.proofs.RoundNotRefused.{round_goes}
use Rattle.machine.proofs.RowCheckMeans.{make_accepted, row_first, row_means}
use Rattle.machine.proofs.laws.machine_laws.Goals as goal

pub returns-clause-determined : goal.returns-clause-determined
returns-clause-determined g c = row_determined c.boxes_laws.ensures.determined

pub returns-clause-goes : goal.returns-clause-goes
returns-clause-goes g c = round_goes g.K.Proposal.kind c.boxes_laws.ensures.short c.boxes_laws.ensures.agree

pub returns-clause-made : goal.returns-clause-made
returns-clause-made g c = make_accepted

pub returns-clause-first : goal.returns-clause-first
returns-clause-first g c = row_first g.K.Proposal.kind

pub returns-clause-means : goal.returns-clause-means
returns-clause-means g c = row_means
