use Rattle.std.proofs.Common.{refl}
use Rattle.scripts.proofs.ScriptRoundTrip.{script_only, script_back, script_surplus}
use Rattle.scripts.proofs.BytesBehindFault.{script_fault}
use Rattle.scripts.proofs.ScriptsComputed.{examples}
use Rattle.scripts.proofs.laws.scripts_laws.Goals as goal

pub returns : goal.returns
returns g c =
    let kind = g.K.Proposal.kind in
    let laws = g.met.K.Proposal.lawful in
    record {
      most = refl;
      only = script_only kind laws;
      back = script_back kind laws;
      surplus = script_surplus kind laws;
      fault = script_fault kind;
      examples = examples;
    }
