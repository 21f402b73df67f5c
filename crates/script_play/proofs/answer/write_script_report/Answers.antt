use Rattle.std.proofs.Common.{length, None, ap, ◌∙◌, arith}
use Rattle.proposals.specs.Pieces.{piece_kind}
use Rattle.promise.specs.StateByHistory.{state_by}
use Rattle.scripts.specs.ScriptValues.{values_of}
use Rattle.scripts.specs.ScriptReading.{read_script}
use Rattle.base.specs.Buffers.{front_len, front_after}
use Rattle.script_play.specs.ScriptCalls.{history_of}
use Rattle.script_play.proofs.MakeForScript.{proper}
use Rattle.script_play.proofs.ReportOfScript.{read_ok, bytes_small, laid_first, report_is}
use Rattle.script_play.proofs.answer.write_script_report.Goals as goal

pub returns : goal.returns
returns c past_end =
    let s = c.in_ok-script.script in
    let r = read_script piece_kind 32 c.args.bytes.now in
    let read = read_ok r (values_of s) c.in_ok-script.ensures.answer in
    let stands = (c.scripts_laws.ensures.only 32 c.args.bytes.now (values_of s) read.0 (bytes_small c.args.bytes.now c.type_inv.bytes) read.1).0 in
    let same = laid_first r (values_of s) read.0 _ c.read_script.new.places c.n-n.result read.1 c.in_ok-script.ensures.places (let n = c.n-n.ensures in let l = stands.whole in omega arith) in
    let there = c.play_on_board-ringing.ensures past_end ∙ ap (λ ps. state_by piece_kind (history_of (values_of s) ps past_end) (λ _. None)) same in
    let is = report_is piece_kind c.machine_laws.ensures.made c.play_laws.ensures.plays c.reports_laws.ensures.report r (values_of s) (proper s) read.0 read.1 stands.whole past_end _ there (length c.args.out.now) c.requires in
    (c.write_report.ensures.answer ∙ ap front_len is, c.write_report.ensures.bytes ∙ ap (λ r. front_after r c.args.out.now) is)
