use Rattle.std.proofs.Common.{arith}
use Rattle.std.proofs.lemmas.Grind.{common_steps}
use Rattle.reports.proofs.LineLengths.{tells}
use Rattle.reports.proofs.text.push_image.Goals as goal

pub loop-i-init : goal.loop-i-init
loop-i-init g c = grind (arith, common_steps, tells)

pub loop-i-preserved : goal.loop-i-preserved
loop-i-preserved g c =
    let long = g.met.K.Proposal.lawful.long c.args.proposal in
    record { items = grind (arith, common_steps, tells); short = omega (arith, c.push_spaced.ensures.len, c.loop-i.invariant.short) }
