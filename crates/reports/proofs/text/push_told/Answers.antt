use Rattle.std.proofs.Common.{arith}
use Rattle.std.proofs.lemmas.Grind.{common_steps}
use Rattle.reports.proofs.LineLengths.{tells}
use Rattle.reports.proofs.text.push_told.Goals as goal

pub returns-in-Up-clause-items : goal.returns-in-Up-clause-items
returns-in-Up-clause-items g c = grind (arith, common_steps, tells)

pub returns-in-Down-clause-items : goal.returns-in-Down-clause-items
returns-in-Down-clause-items g c = grind (arith, common_steps, tells)

pub returns-in-Rung-clause-items : goal.returns-in-Rung-clause-items
returns-in-Rung-clause-items g c = grind (arith, common_steps, tells)
