-- A call: a rank, 1 to 9, and a piece; the higher rank goes first, then the smaller piece. To be believed for what a call means.
use Rattle.std.specs.Prelude.{ℕ, ◌≤◌, Bool, if◌then◌else◌, List, [], ◌∷◌, Some, None, Option, ◌==◌, nat_lt}
use Rattle.std.proofs.Math.Decide.{dec_le}
use Rattle.proposals.specs.declared.values.Piece.{Piece}
use Rattle.proposals.specs.declared.values.Call.{Call}
use Rattle.proposals.specs.Kinds.{Kind}
use Rattle.proposals.specs.Pieces.{piece_image, piece_named, piece_leads}

-- the call of a rank and a piece, once it is known whether the rank is within its limits
abbrev pub call_by : (r : ℕ) → Dec (1 ≤ r) → Dec (r ≤ 9) → Option Piece → Option Call
call_by r (yes a) (yes b) (Some p) = Some (record { rank = r; piece = p; least = a; most = b })
call_by r (yes a) (yes b) None = None
call_by r (yes a) (no b) o = None
call_by r (no a) b o = None

-- the call of a rank and a piece, if there is one
abbrev pub call_at : ℕ → Option Piece → Option Call
call_at r o = call_by r (dec_le 1 r) (dec_le r 9) o

-- the rank, and then the image of the piece
abbrev pub call_image : Call → List ℕ
call_image x = x.rank ∷ piece_image x.piece

-- the call that has these numbers for its image, if there is one
abbrev pub call_named : List ℕ → Option Call
call_named [] = None
call_named (r ∷ ns) = call_at r (piece_named ns)

-- whether x may go first of the two
abbrev pub call_leads : Call → Call → Bool
call_leads x y =
    if x.rank == y.rank then piece_leads x.piece y.piece
    else nat_lt y.rank x.rank

-- calls as a kind
abbrev pub call_kind : Kind Call
call_kind = record { size = 2; image = call_image; named = call_named; leads = call_leads }
