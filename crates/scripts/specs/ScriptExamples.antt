-- Worked scripts, with bytes in hexadecimal. To be believed for scripts and reports.
use Rattle.std.specs.Prelude.{◌≡◌, ℕ, ◌≤◌, ◌||◌, List, [], ◌∷◌, Ok, Err, Result, ◌==◌}
use Rattle.std.proofs.Common.{lit≤}
use Rattle.base.specs.declared.refusal.Refusal.{Refusal}
use Rattle.base.specs.declared.refusal.Refusal.TheVariants as refusal
use Rattle.sets.specs.Masks.{set_of}
use Rattle.proposals.specs.declared.values.Piece.{Piece}
use Rattle.proposals.specs.Pieces.{piece_kind}
use Rattle.scripts.specs.ScriptValues.{ScriptValues}
use Rattle.scripts.specs.ScriptReading.{read_script}

abbrev pub piece : (x : ℕ) → x ≤ 16383 → Piece
piece x most = record { number = x; most = most }

-- what is read with room for 32 pieces
abbrev pub read_pieces : List ℕ → Result (ScriptValues × List Piece) Refusal
read_pieces bytes = read_script piece_kind 32 bytes

-- four boxes with the pieces 30, 20, 10 and 40, of which two may fall, and then these bytes
abbrev pub four : List ℕ → List ℕ
four behind = 0x04 ∷ 0x02 ∷ 0x1e ∷ 0x14 ∷ 0x0a ∷ 0x28 ∷ behind

-- box 2 falls in round 1 unheard by the boxes 0, 1 and 3
abbrev pub AcceptedScripts : Type 0
AcceptedScripts =
    read_pieces (four (0x01 ∷ 0x01 ∷ 0x02 ∷ 0x0b ∷ []))
    ≡ Ok (
      record {
        n = 4;
        t = 2;
        entries = record { round = record { 0 = 1 }; number = record { 0 = 2 }; lost = set_of (λ i. i == 0 || i == 1 || i == 3) } ∷ [];
      },
      piece 30 (lit≤ tt) ∷ piece 20 (lit≤ tt) ∷ piece 10 (lit≤ tt) ∷ piece 40 (lit≤ tt) ∷ [],
    )

-- each refusal
abbrev pub RefusedScripts : Type 0
RefusedScripts =
    -- a company of one, and one of which all may fall
    (read_pieces (0x01 ∷ 0x01 ∷ 0x1e ∷ 0x00 ∷ []) ≡ Err refusal.Company)
    × (read_pieces (0x02 ∷ 0x02 ∷ 0x1e ∷ 0x14 ∷ 0x00 ∷ []) ≡ Err refusal.Company)
    -- fewer places than boxes
    × (read_script piece_kind 3 (four (0x00 ∷ [])) ≡ Err refusal.Row)
    -- piece 16384
    × (read_pieces (0x02 ∷ 0x01 ∷ 0x1e ∷ 0x81 ∷ 0x80 ∷ 0x00 ∷ 0x00 ∷ []) ≡ Err refusal.Image)
    -- three entries where two may fall
    × (read_pieces (four (0x03 ∷ 0x01 ∷ 0x00 ∷ 0x00 ∷ 0x01 ∷ 0x01 ∷ 0x00 ∷ 0x01 ∷ 0x02 ∷ 0x00 ∷ [])) ≡ Err refusal.Entry)
    -- round 0 and round t + 2
    × (read_pieces (four (0x01 ∷ 0x00 ∷ 0x02 ∷ 0x0b ∷ [])) ≡ Err refusal.Entry)
    × (read_pieces (four (0x01 ∷ 0x04 ∷ 0x02 ∷ 0x0b ∷ [])) ≡ Err refusal.Entry)
    -- box n
    × (read_pieces (four (0x01 ∷ 0x01 ∷ 0x04 ∷ 0x0b ∷ [])) ≡ Err refusal.Stranger)
    -- box 2 twice
    × (read_pieces (four (0x02 ∷ 0x01 ∷ 0x02 ∷ 0x0b ∷ 0x03 ∷ 0x02 ∷ 0x00 ∷ [])) ≡ Err refusal.Entry)
    -- a lost set with the box itself, and one with box n
    × (read_pieces (four (0x01 ∷ 0x01 ∷ 0x02 ∷ 0x04 ∷ [])) ≡ Err refusal.Set)
    × (read_pieces (four (0x01 ∷ 0x01 ∷ 0x02 ∷ 0x10 ∷ [])) ≡ Err refusal.Set)
    -- a byte too many, and one too few
    × (read_pieces (four (0x01 ∷ 0x01 ∷ 0x02 ∷ 0x0b ∷ 0x00 ∷ [])) ≡ Err refusal.Surplus)
    × (read_pieces (four (0x01 ∷ 0x01 ∷ 0x02 ∷ [])) ≡ Err refusal.Short)
    -- a number that begins with 80, and 2 ^ 32
    × (read_pieces (four (0x80 ∷ 0x00 ∷ [])) ≡ Err refusal.Padded)
    × (read_pieces (four (0x90 ∷ 0x80 ∷ 0x80 ∷ 0x80 ∷ 0x00 ∷ [])) ≡ Err refusal.Wide)

-- of two faults the one that is met first
abbrev pub FirstFaults : Type 0
FirstFaults =
    -- the company before the end, and the places before a piece
    (read_pieces (0x01 ∷ 0x01 ∷ []) ≡ Err refusal.Company)
    × (read_script piece_kind 1 (0x02 ∷ 0x01 ∷ 0x81 ∷ 0x80 ∷ 0x00 ∷ []) ≡ Err refusal.Row)
    -- a piece before the count
    × (read_pieces (0x02 ∷ 0x01 ∷ 0x1e ∷ 0x81 ∷ 0x80 ∷ 0x00 ∷ 0x03 ∷ []) ≡ Err refusal.Image)
    -- the round before the box, the box before its lost set, and an entry before the next
    × (read_pieces (four (0x01 ∷ 0x00 ∷ 0x04 ∷ 0x0b ∷ [])) ≡ Err refusal.Entry)
    × (read_pieces (four (0x01 ∷ 0x01 ∷ 0x04 ∷ 0x10 ∷ [])) ≡ Err refusal.Stranger)
    × (read_pieces (four (0x02 ∷ 0x01 ∷ 0x02 ∷ 0x0b ∷ 0x03 ∷ 0x02 ∷ 0x04 ∷ [])) ≡ Err refusal.Entry)
    × (read_pieces (four (0x02 ∷ 0x01 ∷ 0x02 ∷ 0x04 ∷ 0x00 ∷ 0x03 ∷ 0x00 ∷ [])) ≡ Err refusal.Set)
    -- the last lost set before a byte too many
    × (read_pieces (four (0x01 ∷ 0x01 ∷ 0x02 ∷ 0x04 ∷ 0x00 ∷ [])) ≡ Err refusal.Set)

-- as one fact
abbrev pub Examples : Type 0
Examples = AcceptedScripts × RefusedScripts × FirstFaults
