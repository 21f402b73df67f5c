-- A piece: one number, 0 to 16383; the smaller goes first. To be believed for what a piece means.
use Rattle.std.specs.Prelude.{ℕ, ◌≤◌, Bool, List, [], ◌∷◌, Some, None, Option, nat_le}
use Rattle.std.proofs.Math.Decide.{dec_le}
use Rattle.proposals.specs.declared.values.Piece.{Piece}
use Rattle.proposals.specs.Kinds.{Kind}

-- the piece with a number, once it is known whether the number is within its limit
abbrev pub piece_by : (n : ℕ) → Dec (n ≤ 16383) → Option Piece
piece_by n (yes h) = Some (record { number = n; most = h })
piece_by n (no h) = None

-- the piece with a number, if there is one
abbrev pub piece_at : ℕ → Option Piece
piece_at n = piece_by n (dec_le n 16383)

-- the number
abbrev pub piece_image : Piece → List ℕ
piece_image p = p.number ∷ []

-- the piece that has these numbers for its image, if there is one
abbrev pub piece_named : List ℕ → Option Piece
piece_named [] = None
piece_named (n ∷ []) = piece_at n
piece_named (n ∷ m ∷ ns) = None

-- whether x may go first of the two
abbrev pub piece_leads : Piece → Piece → Bool
piece_leads x y = nat_le x.number y.number

-- pieces as a kind
abbrev pub piece_kind : Kind Piece
piece_kind = record { size = 1; image = piece_image; named = piece_named; leads = piece_leads }
