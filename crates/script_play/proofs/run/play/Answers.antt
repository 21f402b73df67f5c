use Rattle.std.proofs.Common.{length, arith}
use Rattle.machine.specs.MakeCall.{on_make}
use Rattle.scripts.specs.ScriptValues.{values_of}
use Rattle.script_play.proofs.MakeForScript.{proper, if_ok, goes, made_so, made_goes, made_plays}
use Rattle.script_play.proofs.run.play.Goals as goal

pub returns-in_err-ringing-clause-rings : goal.returns-in_err-ringing-clause-rings
returns-in_err-ringing-clause-rings g c past_end =
    let p = c.play_laws.ensures.plays (values_of c.args.script.now) (proper c.args.script.now) c.args.proposals.now past_end in (p.0, p.1)

pub play_rounds-requires : goal.play_rounds-requires
play_rounds-requires g c =
    made_goes c.play_laws.ensures.plays c.args.script.now (g.met.W.Wire.formed c.args.wire) _ _ _ (let e = c.n.ensures in cc) (let e = c.t.ensures in cc) c.in_ok-ringing.ensures.answer

pub returns-clause-played : goal.returns-clause-played
returns-clause-played g c past_end =
    made_plays c.play_laws.ensures.plays c.args.script.now (g.met.W.Wire.formed c.args.wire) _ _ _ c.n.ensures c.t.ensures c.in_ok-ringing.ensures.answer past_end c.play_rounds.ensures

pub returns-clause-rings : goal.returns-clause-rings
returns-clause-rings g c past_end =
    let p = c.play_laws.ensures.plays (values_of c.args.script.now) (proper c.args.script.now) c.args.proposals.now past_end in (p.0, p.1)

pub returns-clause-goes : goal.returns-clause-goes
returns-clause-goes g c past_end =
    if_ok _ (on_make c.args.script.now.n c.args.script.now.t (g.W.Wire.meaning c.args.wire) (length c.args.row.now) c.args.proposals.now) (λ first made.
    goes c.play_laws.ensures.plays c.args.script.now (g.met.W.Wire.formed c.args.wire) _ _ made past_end)

pub returns-clause-answer : goal.returns-clause-answer
returns-clause-answer g c =
    let made = made_so c.play_laws.ensures.plays c.args.script.now (g.met.W.Wire.formed c.args.wire) _ _ _ c.n.ensures c.t.ensures c.in_ok-ringing.ensures.answer in
    grind arith
