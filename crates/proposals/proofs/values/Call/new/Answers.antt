use Rattle.std.proofs.Common.{sym, ap}
use Rattle.std.specs.Option.{ok_or}
use Rattle.base.specs.declared.refusal.Refusal.TheVariants.{Image}
use Rattle.proposals.specs.ProposalLemmas.{call_at_lem}
use Rattle.proposals.proofs.values.Call.new.Goals as goal

pub returns : goal.returns
returns c = sym (ap (λ o. ok_or o Image) (call_at_lem _))
