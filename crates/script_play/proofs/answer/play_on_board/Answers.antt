use Rattle.std.proofs.Common.{sym, ap, ◌∙◌, arith}
use Rattle.std.specs.Result.{result_map_both}
use Rattle.proposals.specs.declared.values.Piece.{Piece}
use Rattle.proposals.specs.Pieces.{piece_kind}
use Rattle.wire.specs.Wires.{board_meaning}
use Rattle.ringing.specs.RingingStates.{state_of}
use Rattle.scripts.specs.ScriptValues.{values_of}
use Rattle.script_play.proofs.MakeForScript.{proper}
use Rattle.script_play.proofs.ReportOfScript.{made_is_new, board_made, ends_so, plays_on}
use Rattle.script_play.proofs.answer.play_on_board.Goals as goal

pub unwrap-board-requires : goal.unwrap-board-requires
unwrap-board-requires c = board_made c.args.script.now.n c.n.result c.args.script.now.t c.args.script.now.size c.n.ensures board_meaning c.new.result c.new.ensures

pub unwrap-requires : goal.unwrap-requires
unwrap-requires c =
    let s = c.args.script.now in
    let piece : Piece = record { number = 0; most = omega arith } in
    let new = made_is_new s.n c.n.result s.t s.size c.n.ensures _ (ap (result_map_both board_meaning (λ e. e)) (sym c.unwrap-board.ensures) ∙ c.new.ensures) in
    plays_on piece_kind c.machine_laws.ensures.made (values_of s) (proper s) c.args.pieces.now c.requires.pieces piece _ _ _ new c.requires.row
    (λ r. state_of r c.play.new.row) c.play.result (c.play.ensures.played piece)

pub returns : goal.returns
returns c past_end =
    let s = c.args.script.now in
    let new = made_is_new s.n c.n.result s.t s.size c.n.ensures _ (ap (result_map_both board_meaning (λ e. e)) (sym c.unwrap-board.ensures) ∙ c.new.ensures) in
    ends_so piece_kind c.machine_laws.ensures.made (values_of s) (proper s) c.args.pieces.now c.requires.pieces past_end _ _ _ new c.requires.row _
    (ap (result_map_both (λ r. state_of r c.play.new.row) (λ e. e)) (sym c.unwrap.ensures) ∙ c.play.ensures.played past_end)
