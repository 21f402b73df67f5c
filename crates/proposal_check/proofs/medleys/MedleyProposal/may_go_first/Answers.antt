use Rattle.std.proofs.Common.{◌∙◌, ap, refl}
use Rattle.std.specs.Cmp.Lexicographic.{lists_agrees}
use Rattle.std.specs.Ordering.{nat_cmp, is_le, is_some_and}
use Rattle.proposal_check.proofs.medleys.MedleyProposal.may_go_first.Goals as goal

pub returns : goal.returns
returns c = c.le.ensures ∙ ap (is_some_and is_le) (lists_agrees {R = nat_cmp} (λ x y. refl) c.args.self.tunes c.args.other.tunes)
