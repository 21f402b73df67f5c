use Rattle.rule.proofs.RoundLemmas.{stands_mean, falls_mean}
use Rattle.rule.proofs.AllRingAtOnce.{agreement, company_rings, remains}
use Rattle.rule.proofs.PastAlone.{only_past, fall_to_come}
use Rattle.rule.proofs.laws.rule_laws.Goals as goal

pub returns : goal.returns
returns g c =
    let kind = g.K.Proposal.kind in
    let laws = g.met.K.Proposal.lawful in
    record {
      stands = stands_mean;
      falls = falls_mean;
      agree = λ h allowed. agreement h allowed kind laws.order;
      comes = company_rings;
      remains = remains;
      past = λ h. only_past h kind;
      coming = fall_to_come;
    }
