use Rattle.std.proofs.Common.{◌∙◌, ap}
use Rattle.std.specs.Option.{ok_or}
use Rattle.base.specs.declared.refusal.Refusal.TheVariants.{Image}
use Rattle.proposal_check.specs.Medleys.{medley_named}
use Rattle.proposal_check.proofs.TuneLemmas.{four_of}
use Rattle.proposal_check.proofs.medleys.MedleyProposal.from_image.Goals as goal

pub returns-in-len4 : goal.returns-in-len4
returns-in-len4 c = c.new.ensures ∙ ap (λ ns. ok_or (medley_named ns) Image) (four_of c.args.numbers.now c.in-len4.len_at_least c.in-len4.len_below)
