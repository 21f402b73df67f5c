-- What a board means, and what a tape does. To be believed of the two wires.
use Rattle.wire.specs.declared.board.Board.{Board}
use Rattle.wire.specs.declared.tape.Tape.{Tape}
use Rattle.wire.specs.PostedBytes.{line_frame, tape_frame}
use Rattle.wire.specs.WireState.{WireState}
use Rattle.wire.specs.Rosters.{roster_state}

-- the board: each box has its line
abbrev pub board_meaning : Board → WireState
board_meaning b = roster_state b.roster (line_frame b.lines)

-- the tape: each box has its span of the bytes in use
abbrev pub tape_meaning : Tape → WireState
tape_meaning t = roster_state t.roster (tape_frame t.spans t.frames.items)
