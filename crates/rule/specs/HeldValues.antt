-- What a box holds, sends and hears where it follows the rule. To be believed for the promise.
use Rattle.std.specs.Prelude.{◌≡◌, ℕ, zero, suc, Bool, true, if◌then◌else◌, not, ◌&&◌, ◌⊎◌, List, [], ◌∷◌, ◌++◌, ◌==◌, Contains, Some, None, nat_lt}
use Rattle.sets.specs.Masks.{set_of}
use Rattle.proposals.specs.Kinds.{Kind}
use Rattle.frames.specs.declared.frame.Frame.{Frame}
use Rattle.boxes.specs.declared.states.Held.{Held}
use Rattle.boxes.specs.Boxes.{frame_of}
use Rattle.boxes.specs.BoxRounds.{Outcome, rests, rings}
use Rattle.boxes.specs.ByFrames.{HeardFrames}
use Rattle.rule.specs.Falls.{hears}
use Rattle.rule.specs.Histories.{History}
use Rattle.rule.specs.RuleValues as rule
use Rattle.rule.specs.RuleValues.{missing_after, best_horizon, estimate}

-- box q is of the company, and box p hears it in round r
abbrev pub hears_of_company : {K : Type 0} → History K → ℕ → ℕ → ℕ → Bool
hears_of_company h p r q = nat_lt q h.n && hears h.falls p r q

module _ {K : Type 0} (h : History K) (kind : Kind K) where
  -- what box p holds after round r, while it has not rung
  unfoldable pub held_after : ℕ → ℕ → Held K
  held_after p r = record {
    number = record { 0 = p };
    n = h.n;
    t = h.t;
    closed = r;
    estimate = estimate h kind p r;
    missing = set_of (λ q. nat_lt q h.n && missing_after h p r q);
    horizon = record { 0 = best_horizon h p r };
  }

  -- what it sends in the round after: that round, its number, its missing set and its estimate
  abbrev pub frame_after : ℕ → ℕ → Frame K
  frame_after p r = frame_of (held_after p r)

  -- what becomes of it as it closes round r: it rings, or it rests
  unfoldable pub outcome_of : ℕ → ℕ → Outcome K
  outcome_of p r = if rule.rings h p r then rings (record { 0 = r }) (estimate h kind p r) else (rests (held_after p r))

  -- of each box that p hears in round r + 1 what it sends
  unfoldable pub heard_after : ℕ → ℕ → HeardFrames K
  heard_after p r q = if hears_of_company h p (suc r) q then Some (frame_after q r) else None

  -- what the other boxes below m that p hears in round r + 1 send in it, by number
  unfoldable pub frames_heard : ℕ → ℕ → ℕ → List (Frame K)
  frames_heard p r zero = []
  frames_heard p r (suc m) =
      frames_heard p r m ++ (if hears_of_company h p (suc r) m && not (m == p) then frame_after m r ∷ [] else [])

  -- among some frames are those of all other boxes that p hears in round r + 1, and no others but its own
  abbrev pub AreHeard : ℕ → ℕ → List (Frame K) → Type 0
  AreHeard p r came =
      ((q : ℕ) → hears_of_company h p (suc r) q ≡ true → (q ≡ p) ⊎ Contains came (frame_after q r))
      × ((f : Frame K) → Contains came f → (q : ℕ) × (hears_of_company h p (suc r) q ≡ true) × (f ≡ frame_after q r))
