-- Worked answers, with bytes in hexadecimal. To be believed for scripts and reports.
use Rattle.std.specs.Prelude.{◌≡◌, ℕ, List, [], ◌∷◌, codes}
use Rattle.proposals.specs.declared.values.Piece.{Piece}
use Rattle.proposals.specs.Pieces.{piece_kind}
use Rattle.script_play.specs.Answers.{answer_text}

abbrev answer_to_pieces : List ℕ → Piece → List ℕ
answer_to_pieces = answer_text piece_kind

-- four boxes with the pieces 30, 20, 10 and 40, of which two may fall: box 2 does in round 1, unheard by all; and the byte 80 alone,
-- which is no script
abbrev pub Examples : Type 0
Examples =
    (past_end : Piece)
    → (answer_to_pieces (0x04 ∷ 0x02 ∷ 0x1e ∷ 0x14 ∷ 0x0a ∷ 0x28 ∷ 0x01 ∷ 0x01 ∷ 0x02 ∷ 0x0b ∷ []) past_end
    ≡ codes "0 rings 3 20\n1 rings 3 20\n2 down 1\n3 rings 3 20\n")
    × (answer_to_pieces (0x80 ∷ []) past_end ≡ codes "refused 3\n")
