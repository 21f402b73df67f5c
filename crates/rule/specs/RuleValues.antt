-- What the rule gives each box in each round, from who hears whom. To be believed for the promise.
use Rattle.std.specs.Prelude.{ℕ, zero, suc, ◌+◌, ◌-◌, min, Bool, false, not, ◌&&◌, ◌==◌, unwrap_or}
use Rattle.base.specs.Counts.{any, count}
use Rattle.proposals.specs.Orders.{foremost}
use Rattle.proposals.specs.Kinds.{Kind}
use Rattle.rule.specs.Falls.{hears}
use Rattle.rule.specs.Histories.{History}

-- the smallest of a number and those that f gives the rounds 1 to r
unfoldable pub smallest : ℕ → (ℕ → ℕ) → ℕ → ℕ
smallest first f zero = first
smallest first f (suc r) = min (smallest first f r) (f (suc r))

module _ {K : Type 0} (h : History K) where
  -- the missing set of box p after round r: the boxes that it did not hear in the round, and none at the start
  unfoldable pub missing_after : ℕ → ℕ → ℕ → Bool
  missing_after p zero q = false
  missing_after p (suc r) q = not (hears h.falls p (suc r) q)

  -- the boxes that p knows to be missing by round r: those in the sets that it hears in that round, its own among them. These are the
  -- missing sets of the round before
  unfoldable pub known_missing : ℕ → ℕ → ℕ → Bool
  known_missing p zero q = false
  known_missing p (suc r) q = any (λ x. hears h.falls p (suc r) x && missing_after x r q) h.n

  -- the horizon of p in round r
  abbrev pub horizon : ℕ → ℕ → ℕ
  horizon p r = r + h.t - count (known_missing p r) h.n

  -- its best horizon: the smallest of t + 1 and its horizons in the rounds 1 to r
  unfoldable pub best_horizon : ℕ → ℕ → ℕ
  best_horizon p r = smallest (h.t + 1) (horizon p) r

  -- it rings in round r: that is its best horizon
  abbrev pub rings : ℕ → ℕ → Bool
  rings p r = best_horizon p r == r

  -- its estimate after round r: of the estimates of those that it heard, its own among them, the one that goes first
  unfoldable pub estimate : Kind K → ℕ → ℕ → K
  estimate kind p zero = h.proposals p
  estimate kind p (suc r) =
      unwrap_or (foremost kind.leads (hears h.falls p (suc r)) (λ q. estimate kind q r) h.n) (estimate kind p r)
