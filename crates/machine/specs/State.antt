-- A ringing with its row as a state of the machine. To be believed for the promise.
use Rattle.std.specs.Prelude.{ℕ, Bool, false, true, not, ◌&&◌, ◌||◌, List, is_some}
use Rattle.base.specs.Counts.{count}
use Rattle.sets.specs.Masks.{member}
use Rattle.wire.specs.WireState.{WireState, is_lost}
use Rattle.machine.specs.Places.{PlaceState, at_rest, down, rung}

-- what a ringing is at some moment, with the row that is handed to its calls: the wire's meaning, how many boxes may fall, how many rounds
-- are closed, and what stands at each place
pub record State (K : Type 0) : Type 0 where
  pub wire : WireState
  pub t : ℕ
  pub closed : ℕ
  pub row : List (PlaceState K)

-- a box is down or falling
abbrev pub is_gone : WireState → ℕ → Bool
is_gone m q = not (member m.up q) || is_some (m.lost q)

-- how many boxes of the company are
abbrev pub gone_count : WireState → ℕ
gone_count m = count (is_gone m) m.n

-- box p hears box q: q is up, and what it posts is not lost to p
abbrev pub hears_on : WireState → (p q : ℕ) → Bool
hears_on m p q = member m.up q && not (is_lost m p q)

-- the box there rings
abbrev pub has_rung : {K : Type 0} → PlaceState K → Bool
has_rung (at_rest b) = false
has_rung (down r) = false
has_rung (rung x) = true
