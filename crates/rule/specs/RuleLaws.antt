-- What falls mean; that all ring at once, in every history; that a box follows the rule; that what is to come does not count.
-- To be believed for the promise.
use Rattle.std.specs.Prelude.{◌≡◌, ℕ, suc, ◌+◌, ◌<◌, ◌≤◌, true, false, not, ◌==◌, List, map, Some, None, Ok, nat_lt}
use Rattle.sets.specs.declared.set.BoxSet.{BoxSet}
use Rattle.sets.specs.Masks.{member}
use Rattle.proposals.specs.Orders.{goes_before}
use Rattle.proposals.specs.Kinds.{Kind}
use Rattle.frames.specs.Frames.{frame_bytes}
use Rattle.boxes.specs.declared.states.Resting.{Resting}
use Rattle.boxes.specs.Boxes.{new_box}
use Rattle.boxes.specs.BoxRounds.{open_notes, on_close}
use Rattle.boxes.specs.ByFrames.{close_by_frames, admits, frames_in, notes_after}
use Rattle.rule.specs.declared.falls.Fall.{Fall}
use Rattle.rule.specs.Falls.{Falls, with_fall, past_falls, closes, hears, waste}
use Rattle.rule.specs.Histories.{History, IsAllowed, ringing_round, as_of}
use Rattle.rule.specs.RuleValues.{rings, estimate}
use Rattle.rule.specs.HeldValues.{held_after, frame_after, heard_after, outcome_of, frames_heard, AreHeard}

-- a box that does not fall closes every round and is heard in it by all
abbrev pub NoFallMeans : Type 0
NoFallMeans = (falls : Falls) (p q r : ℕ) → falls q ≡ None → (closes falls q r ≡ true) × (hears falls p r q ≡ true)

-- one that falls closes the rounds before that of its fall; others hear it in these, in that of its fall if they are not in its lost set,
-- and not in later ones
abbrev pub FallMeans : Type 0
FallMeans = (falls : Falls) (p q r : ℕ) (f : Fall) → falls q ≡ Some f → (q ≡ p → ⊥)
    → (closes falls q r ≡ nat_lt r f.round.0)
    × (r < f.round.0 → hears falls p r q ≡ true)
    × (r ≡ f.round.0 → hears falls p r q ≡ not (member f.lost p))
    × (f.round.0 < r → hears falls p r q ≡ false)

module _ {K : Type 0} (h : History K) where
  -- box p of the company closes round r, and rings in it
  abbrev pub RingsIn : ℕ → ℕ → Type 0
  RingsIn p r = (p < h.n) × (closes h.falls p r ≡ true) × (rings h p r ≡ true)

  -- nobody rings in a round before r
  abbrev pub IsQuietBefore : ℕ → Type 0
  IsQuietBefore r = (p k : ℕ) → k < r → RingsIn p k → ⊥

  -- a box that closed the last round rings in it exactly if it is round t + 1 - D
  abbrev pub RingsInTheRound : Type 0
  RingsInTheRound = (p : ℕ) → p < h.n → closes h.falls p h.closed ≡ true → rings h p h.closed ≡ (h.closed == ringing_round h)

  -- where nobody rang before, that round is not passed
  abbrev pub IsNeverPassed : Type 0
  IsNeverPassed = IsQuietBefore h.closed → h.closed ≤ ringing_round h

  -- all that ever ring do so in one round
  abbrev pub RingsOnce : Type 0
  RingsOnce = (p q r s : ℕ) → RingsIn p r → RingsIn q s → r ≡ s

  -- some box of the company closes every round: not all may fall
  abbrev pub SomeRemains : Type 0
  SomeRemains = (p : ℕ) × (p < h.n) × ((r : ℕ) → closes h.falls p r ≡ true)

  -- in some round up to t + 1 all who close it ring, and nobody before
  abbrev pub CompanyRings : Type 0
  CompanyRings = (r : ℕ) × (1 ≤ r) × (r ≤ h.t + 1) × IsQuietBefore r × ((p : ℕ) → p < h.n → closes h.falls p r ≡ true → rings h p r ≡ true)

  module _ (kind : Kind K) where
    -- all that ring in the last round have one estimate
    abbrev pub RingsOnOne : Type 0
    RingsOnOne = (p q : ℕ) → RingsIn p h.closed → RingsIn q h.closed → estimate h kind p h.closed ≡ estimate h kind q h.closed

    -- some box proposed it
    abbrev pub RingsOnProposal : Type 0
    RingsOnProposal = (p : ℕ) → RingsIn p h.closed → (q : ℕ) × (q < h.n) × (estimate h kind p h.closed ≡ h.proposals q)

    -- and no ringing box proposed one that goes before it
    abbrev pub RingsOnFirst : Type 0
    RingsOnFirst = (p q : ℕ) → RingsIn p h.closed → RingsIn q h.closed
        → goes_before kind.leads (h.proposals q) (estimate h kind p h.closed) ≡ false

    -- the whole of it
    abbrev pub Agreement : Type 0
    Agreement = IsAllowed h → RingsInTheRound × IsNeverPassed × RingsOnce × RingsOnOne × RingsOnProposal × RingsOnFirst

-- ---- a box that follows the rule

module _ {K : Type 0} (h : History K) (kind : Kind K) where
  -- a box that is made holds the rule's values before the first round
  abbrev pub BoxBegins : Type 0
  BoxBegins = IsAllowed h → (p : ℕ) → p < h.n → new_box (record { 0 = p }) h.n h.t (h.proposals p) ≡ Ok (held_after h kind p 0)

  -- where it has not rung up to round r, the rule's values after it are those of a box at rest: they keep what every box keeps
  abbrev pub BoxRests : Type 0
  BoxRests = IsAllowed h → (p r : ℕ) → p < h.n → closes h.falls p r ≡ true → ((k : ℕ) → k ≤ r → rings h p k ≡ false)
      → (b : Resting K) × (b.held ≡ held_after h kind p r)

  -- it may hear what each other box that it hears in the next round sends
  abbrev pub BoxAdmits : Type 0
  BoxAdmits = IsAllowed h → (p q r : ℕ) → p < h.n → q < h.n → closes h.falls p (suc r) ≡ true
      → hears h.falls p (suc r) q ≡ true → (q ≡ p → ⊥)
      → admits (held_after h kind p r) (frame_after h kind q r) ≡ true

  -- and from the frames that it hears it closes that round to the rule's values, and rings exactly if the rule says so
  abbrev pub BoxFollows : Type 0
  BoxFollows = IsAllowed h → (p r : ℕ) → p < h.n → closes h.falls p (suc r) ≡ true
      → close_by_frames kind (held_after h kind p r) (heard_after h kind p r) ≡ Ok (outcome_of h kind p (suc r))

  -- the same of a box at rest that is told byte strings: the frames among them are those, and no others but its own. Strings that
  -- are no frame, and the order, do not count
  abbrev pub BoxFollowsTold : Type 0
  BoxFollowsTold = IsAllowed h → (p r : ℕ) → p < h.n → closes h.falls p (suc r) ≡ true
      → (b : Resting K) → b.held ≡ held_after h kind p r → (told : List (List ℕ)) → AreHeard h kind p r (frames_in kind told)
      → on_close b.held (notes_after kind b.held (open_notes b.held) told) ≡ Ok (outcome_of h kind p (suc r))

  -- and so if it is told what those boxes compose, one after another
  abbrev pub BoxFollowsSent : Type 0
  BoxFollowsSent = IsAllowed h → (p r : ℕ) → p < h.n → closes h.falls p (suc r) ≡ true → (b : Resting K) → b.held ≡ held_after h kind p r
      → on_close b.held (notes_after kind b.held (open_notes b.held) (map (frame_bytes kind) (frames_heard h kind p r h.n)))
      ≡ Ok (outcome_of h kind p (suc r))

  -- what is still to come does not count: who closed a round, who was heard in it, the waste and the values after it are by the falls up to
  -- then
  abbrev pub OnlyPastCounts : Type 0
  OnlyPastCounts = (s r p q : ℕ) → r ≤ s
      → (closes (past_falls s h.falls) p r ≡ closes h.falls p r)
      × (hears (past_falls s h.falls) p r q ≡ hears h.falls p r q)
      × (waste (past_falls s h.falls) h.n r ≡ waste h.falls h.n r)
      × (held_after (as_of s h) kind p r ≡ held_after h kind p r)

-- and a box that falls in a round to come, where it had no fall, leaves the falls up to then as they are
abbrev pub FallToComeCountsNot : Type 0
FallToComeCountsNot = (falls : Falls) (s r p : ℕ) (lost : BoxSet) → falls p ≡ None → s < r
    → past_falls s (with_fall r p lost falls) ≡ past_falls s falls
