-- The ringing with its row that the rule gives for a history. To be believed for the promise.
use Rattle.std.specs.Prelude.{ℕ, zero, suc, if◌then◌else◌, not, ◌&&◌, List, map, Some, None, Option, ◌==◌, nat_le, nat_lt}
use Rattle.std.specs.List.{range_with_len}
use Rattle.sets.specs.declared.set.BoxSet.{BoxSet}
use Rattle.sets.specs.Masks.{set_of}
use Rattle.proposals.specs.Kinds.{Kind}
use Rattle.machine.specs.Frames.{frame_bytes}
use Rattle.machine.specs.BoxRounds.{Outcome}
use Rattle.machine.specs.WireState.{WireState}
use Rattle.rule.specs.declared.falls.Fall.{Fall}
use Rattle.rule.specs.Falls.{fell_before, closes}
use Rattle.rule.specs.Histories.{History}
use Rattle.rule.specs.HeldValues.{frame_after, outcome_of}
use Rattle.machine.specs.Places.{PlaceState, down, state_of_outcome}
use Rattle.machine.specs.State.{State}

-- the lost set of a box that falls in round r
abbrev pub lost_in : ℕ → Option Fall → Option BoxSet
lost_in r None = None
lost_in r (Some f) = if f.round.0 == r then Some f.lost else None

-- what stands for a box with this fall after round r, where it would have become o: if it fell up to then, it is down since
abbrev pub place_by_fall : {K : Type 0} → Option Fall → ℕ → Outcome K → PlaceState K
place_by_fall None r o = state_of_outcome o
place_by_fall (Some f) r o = if nat_le f.round.0 r then down f.round else state_of_outcome o

module _ {K : Type 0} (kind : Kind K) (h : History K) where
  -- what stands for box p after the closed rounds: it is down since its round if it fell up to then; otherwise by the rule it rests with
  -- its values, or rings
  abbrev pub place_by : ℕ → PlaceState K
  place_by p = place_by_fall (h.falls p) h.closed (outcome_of h kind p h.closed)

  -- the row
  unfoldable pub row_by : List (PlaceState K)
  row_by = map place_by (range_with_len 0 h.n)

  module _ (unopened : ℕ → Option (List ℕ)) where
    -- what is posted after round r: of each box that did not fall before it what the rule sends in it. Before the first, what was posted
    -- as the ringing was made
    unfoldable pub posted_by : ℕ → ℕ → Option (List ℕ)
    posted_by zero q = unopened q
    posted_by (suc r) q =
        if nat_lt q h.n && not (fell_before (h.falls q) (suc r)) then Some (frame_bytes kind (frame_after h kind q r)) else None

    -- the wire
    unfoldable pub wire_by : WireState
    wire_by = record {
      n = h.n;
      up = set_of (λ q. nat_lt q h.n && closes h.falls q h.closed);
      lost = λ q. lost_in (suc h.closed) (h.falls q);
      posted = posted_by h.closed;
    }

    -- both
    abbrev pub state_by : State K
    state_by = record { wire = wire_by; t = h.t; closed = h.closed; row = row_by }
