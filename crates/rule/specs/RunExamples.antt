-- Worked runs by the rule, and rules that are nearly right with a run that breaks each. To be believed for the examples of the rule.
use Rattle.std.specs.Prelude.{◌≡◌, ℕ, ◌+◌, ◌-◌, ◌≤◌, Bool, true, false, not, ◌&&◌, ◌||◌, List, [], ◌∷◌, map, slice_index_or, ◌==◌, nat_lt}
use Rattle.std.proofs.Common.{lit≤}
use Rattle.base.specs.Counts.{any, count}
use Rattle.sets.specs.declared.set.BoxSet.{BoxSet}
use Rattle.sets.specs.Masks.{set_of}
use Rattle.proposals.specs.declared.values.Piece.{Piece}
use Rattle.proposals.specs.Pieces.{piece_kind}
use Rattle.frames.specs.FrameExamples as frames
use Rattle.rule.specs.Falls.{Falls, no_falls, with_fall, closes, found_missing, waste}
use Rattle.rule.specs.Histories.{History, IsAllowed, ringing_round}
use Rattle.rule.specs.RuleValues.{missing_after, known_missing, horizon, smallest, rings, estimate}

-- ---- companies

-- a piece by its number
abbrev piece : (x : ℕ) → x ≤ 16383 → Piece
piece x most = record { number = x; most = most }

-- what each box proposed, by its number
abbrev proposal_at : List Piece → ℕ → Piece
proposal_at pieces q = slice_index_or pieces q (piece 0 (lit≤ tt))

-- four boxes with the pieces 30, 20, 10 and 40, of which two may fall, after some rounds
abbrev pub four : Falls → ℕ → History Piece
four falls closed = record {
  n = 4;
  t = 2;
  proposals = proposal_at (piece 30 (lit≤ tt) ∷ piece 20 (lit≤ tt) ∷ piece 10 (lit≤ tt) ∷ piece 40 (lit≤ tt) ∷ []);
  falls = falls;
  closed = closed;
}

-- two boxes with the pieces 30 and 20, of which one may fall, after some rounds
abbrev pub two : Falls → ℕ → History Piece
two falls closed = record {
  n = 2;
  t = 1;
  proposals = proposal_at (piece 30 (lit≤ tt) ∷ piece 20 (lit≤ tt) ∷ []);
  falls = falls;
  closed = closed;
}

-- a number is in a list
abbrev is_among : ℕ → List ℕ → Bool
is_among i [] = false
is_among i (x ∷ xs) = i == x || is_among i xs

-- the set of the boxes with these numbers
abbrev pub boxes : List ℕ → BoxSet
boxes xs = set_of (λ i. is_among i xs)

-- ---- falls

-- box 2 falls in round 1 unheard by box 0
abbrev pub one_falls : Falls
one_falls = with_fall 1 2 (boxes (0 ∷ [])) no_falls

-- unheard by all
abbrev pub one_unheard : Falls
one_unheard = with_fall 1 2 (boxes (0 ∷ 1 ∷ 3 ∷ [])) no_falls

-- boxes 2 and 3 fall in round 1 unheard by box 0
abbrev pub two_at_once : Falls
two_at_once = with_fall 1 2 (boxes (0 ∷ [])) (with_fall 1 3 (boxes (0 ∷ [])) no_falls)

-- unheard by boxes 0 and 1
abbrev pub two_unheard : Falls
two_unheard = with_fall 1 2 (boxes (0 ∷ 1 ∷ [])) (with_fall 1 3 (boxes (0 ∷ 1 ∷ [])) no_falls)

-- box 2 falls in round 1 unheard by box 3, which falls in it too, heard by all
abbrev pub two_heard : Falls
two_heard = with_fall 1 2 (boxes (3 ∷ [])) (with_fall 1 3 (boxes []) no_falls)

-- box 2 falls in round 1 unheard by box 3, which falls in round 2 unheard by boxes 0 and 1
abbrev pub one_after_another : Falls
one_after_another = with_fall 1 2 (boxes (3 ∷ [])) (with_fall 2 3 (boxes (0 ∷ 1 ∷ [])) no_falls)

-- box 2 falls in round 1 unheard by boxes 0 and 1, and box 3 in round 2 unheard by box 0
abbrev pub chain : Falls
chain = with_fall 1 2 (boxes (0 ∷ 1 ∷ [])) (with_fall 2 3 (boxes (0 ∷ [])) no_falls)

-- box 1 falls in some round unheard by box 0
abbrev pub other_falls : ℕ → Falls
other_falls r = with_fall r 1 (boxes (0 ∷ [])) no_falls

-- ---- when a company rings

-- the boxes that close the last round
abbrev pub closers : History Piece → BoxSet
closers h = set_of (λ p. nat_lt p h.n && closes h.falls p h.closed)

-- those that ring in it on piece x
abbrev pub ringers : History Piece → ℕ → BoxSet
ringers h x = set_of (λ p.
    nat_lt p h.n && (closes h.falls p h.closed && (rings h p h.closed && (estimate h piece_kind p h.closed).number == x)))

-- no box rings in an earlier round that it closes
abbrev pub silent_before : History Piece → Bool
silent_before h = not (any (λ r. any (λ p. closes h.falls p r && rings h p r) h.n) h.closed)

-- these boxes close the last round, all of them ring in it on piece x, nobody before, and it is round t + 1 - D
abbrev pub RingOn : History Piece → List ℕ → ℕ → Type 0
RingOn h who x =
    IsAllowed h × (closers h ≡ boxes who) × (ringers h x ≡ boxes who) × (silent_before h ≡ true) × (ringing_round h ≡ h.closed)

-- ten runs
abbrev pub WorkedRuns : Type 0
WorkedRuns =
    (RingOn (four no_falls 3) (0 ∷ 1 ∷ 2 ∷ 3 ∷ []) 10)
    × (RingOn (four one_falls 3) (0 ∷ 1 ∷ 3 ∷ []) 10)
    × (RingOn (four two_unheard 2) (0 ∷ 1 ∷ []) 20)
    × (RingOn (four two_at_once 2) (0 ∷ 1 ∷ []) 10)
    × (RingOn (four one_after_another 3) (0 ∷ 1 ∷ []) 10)
    × (RingOn (four two_heard 3) (0 ∷ 1 ∷ []) 10)
    × (RingOn (four chain 3) (0 ∷ 1 ∷ []) 10)
    × (RingOn (two no_falls 2) (0 ∷ 1 ∷ []) 20)
    × (RingOn (two (other_falls 2) 2) (0 ∷ []) 20)
    × (RingOn (two (other_falls 3) 2) (0 ∷ 1 ∷ []) 20)

-- ---- how it comes about

-- the boxes found missing in round r
abbrev pub found_boxes : Falls → ℕ → BoxSet
found_boxes falls r = set_of (λ q. nat_lt q 4 && found_missing falls 4 r q)

-- those missed by box p in it
abbrev pub missed_by : Falls → ℕ → ℕ → BoxSet
missed_by falls p r = set_of (λ q. nat_lt q 4 && missing_after (four falls r) p r q)

-- those known missing to it
abbrev pub known_by : Falls → ℕ → ℕ → BoxSet
known_by falls p r = set_of (λ q. nat_lt q 4 && known_missing (four falls r) p r q)

-- the waste of the rounds up to 0, 1, 2 and 3
abbrev pub wastes : Falls → List ℕ
wastes falls = map (waste falls 4) (0 ∷ 1 ∷ 2 ∷ 3 ∷ [])

-- the horizons of box p in the rounds 1, 2 and 3
abbrev pub horizons : Falls → ℕ → List ℕ
horizons falls p = map (horizon (four falls 3) p) (1 ∷ 2 ∷ 3 ∷ [])

-- the estimates of some boxes after round r
abbrev pub estimates : Falls → ℕ → List ℕ → List ℕ
estimates falls r = map (λ p. (estimate (four falls r) piece_kind p r).number)

-- what the boxes hold in some of these runs, round by round
abbrev pub WorkedRounds : Type 0
WorkedRounds =
    -- box 0 alone misses box 2 in round 1, and in round 2 all know it
    (missed_by one_falls 0 1 ≡ boxes (2 ∷ [])) × (missed_by one_falls 1 1 ≡ boxes []) × (missed_by one_falls 3 1 ≡ boxes [])
    × (known_by one_falls 0 1 ≡ boxes []) × (known_by one_falls 0 2 ≡ boxes (2 ∷ [])) × (known_by one_falls 1 2 ≡ boxes (2 ∷ []))
    × (known_by one_falls 3 2 ≡ boxes (2 ∷ []))
    × (estimates one_falls 1 (0 ∷ 1 ∷ 3 ∷ []) ≡ 20 ∷ 10 ∷ 10 ∷ []) × (estimates one_falls 2 (0 ∷ 1 ∷ 3 ∷ []) ≡ 10 ∷ 10 ∷ 10 ∷ [])
    -- box 1 learns of piece 10 in round 2 from box 3, which alone had it, and box 0 in round 3
    × (missed_by chain 0 2 ≡ boxes (2 ∷ 3 ∷ [])) × (missed_by chain 1 2 ≡ boxes (2 ∷ []))
    × (estimates chain 1 (0 ∷ 1 ∷ 3 ∷ []) ≡ 20 ∷ 20 ∷ 10 ∷ []) × (estimates chain 2 (0 ∷ 1 ∷ []) ≡ 20 ∷ 10 ∷ [])
    × (estimates chain 3 (0 ∷ 1 ∷ []) ≡ 10 ∷ 10 ∷ [])
    -- who falls in a round is found missing in it if a box that closes it did not hear it
    × (closers (four two_at_once 1) ≡ boxes (0 ∷ 1 ∷ [])) × (found_boxes two_at_once 1 ≡ boxes (2 ∷ 3 ∷ []))
    × (wastes two_at_once ≡ 0 ∷ 1 ∷ 1 ∷ 1 ∷ [])
    -- where none of these closes the round, only in the next
    × (closers (four two_heard 1) ≡ boxes (0 ∷ 1 ∷ [])) × (found_boxes two_heard 1 ≡ boxes [])
    × (found_boxes two_heard 2 ≡ boxes (2 ∷ 3 ∷ [])) × (wastes two_heard ≡ 0 ∷ 0 ∷ 0 ∷ 0 ∷ [])

-- ---- nearly right

-- a horizon that counts the boxes missed in this very round as well
abbrev pub missed_now_too : History Piece → ℕ → ℕ → ℕ
missed_now_too h p r = r + h.t - count (λ q. known_missing h p r q || missing_after h p r q) h.n

-- one that counts only the box's own missing set
abbrev pub own_only : History Piece → ℕ → ℕ → ℕ
own_only h p r = r + h.t - count (missing_after h p (r - 1)) h.n

-- box p rings in the last round by such horizons
abbrev pub rings_by : (History Piece → ℕ → ℕ → ℕ) → History Piece → ℕ → Bool
rings_by other h p = smallest (h.t + 1) (other h p) h.closed == h.closed

-- no box rings in a round up to the last by the horizon of that round alone, the earlier ones forgotten
abbrev pub silent_by_last : History Piece → Bool
silent_by_last h = not (any (λ r. any (λ p. closes h.falls p r && horizon h p r == r) h.n) (h.closed + 1))

-- a run that breaks each
abbrev pub NearlyRightFails : Type 0
NearlyRightFails =
    -- box 0 rings and box 1 does not
    (rings_by missed_now_too (four two_at_once 1) 0 ≡ true) × (rings_by missed_now_too (four two_at_once 1) 1 ≡ false)
    × (rings_by own_only (four two_at_once 2) 0 ≡ true) × (rings_by own_only (four two_at_once 2) 1 ≡ false)
    -- nobody rings up to round t + 1
    × (horizons one_unheard 0 ≡ 3 ∷ 3 ∷ 4 ∷ []) × (horizons one_unheard 1 ≡ 3 ∷ 3 ∷ 4 ∷ []) × (horizons one_unheard 3 ≡ 3 ∷ 3 ∷ 4 ∷ [])
    × (silent_by_last (four one_unheard 3) ≡ true)

-- with the numbers and the frame of the crate `frames`, as one fact
abbrev pub Examples : Type 0
Examples = frames.Examples × WorkedRuns × WorkedRounds × NearlyRightFails
