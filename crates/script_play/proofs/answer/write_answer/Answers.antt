use Rattle.std.proofs.Common.{subst, sym, arith}
use Rattle.std.specs.Result.{IsOk}
use Rattle.proposals.specs.declared.values.Piece.{Piece}
use Rattle.base.specs.Limits.{most_company}
use Rattle.proposals.specs.Pieces.{piece_kind}
use Rattle.script_play.proofs.ReportOfScript.{bytes_small, bytes_play, line_fits, told_fits}
use Rattle.script_play.proofs.answer.write_answer.Goals as goal

pub unwrap-requires : goal.unwrap-requires
unwrap-requires c =
    let short = c.reports_laws.ensures.refusal c.in-Err.refusal in
    let same = c.write_script_report.auto.out in
    subst IsOk (sym c.write_refusal.ensures.answer) (line_fits _ c.write_script_report.new.out (let k = c.told-out in let f = c.fits-out in omega arith))

pub returns-in-Ok-clause-room : goal.returns-in-Ok-clause-room
returns-in-Ok-clause-room c =
    let piece : Piece = record { number = 0; most = omega arith } in
    let l = told_fits _ c.args.out.now c.write_script_report.new.out c.in-Ok.length (c.in-Ok.ensures piece).0 (c.in-Ok.ensures piece).1 in
    let k = c.told-out in
    let f = c.fits-out in
    omega arith

pub returns-in-Ok-clause-plays : goal.returns-in-Ok-clause-plays
returns-in-Ok-clause-plays c =
    bytes_play piece_kind c.args.bytes.now c.machine_laws.ensures.made c.play_laws.ensures.plays
    (λ s ps is. (c.scripts_laws.ensures.only most_company c.args.bytes.now s ps (bytes_small c.args.bytes.now c.type_inv.bytes) is).0)

pub returns-in-Err-clause-plays : goal.returns-in-Err-clause-plays
returns-in-Err-clause-plays c =
    bytes_play piece_kind c.args.bytes.now c.machine_laws.ensures.made c.play_laws.ensures.plays
    (λ s ps is. (c.scripts_laws.ensures.only most_company c.args.bytes.now s ps (bytes_small c.args.bytes.now c.type_inv.bytes) is).0)
