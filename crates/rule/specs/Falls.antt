-- Which boxes fall and when, and so who closes a round, who hears whom in it, and who is found missing. To be believed for the promise.
use Rattle.std.specs.Prelude.{ℕ, zero, suc, ◌-◌, max, Bool, false, if◌then◌else◌, not, ◌&&◌, ◌||◌, Some, None, Option, ◌==◌, nat_lt}
use Rattle.base.specs.Counts.{any, count}
use Rattle.sets.specs.declared.set.BoxSet.{BoxSet}
use Rattle.sets.specs.Masks.{member}
use Rattle.rule.specs.declared.falls.Fall.{Fall}

-- of each box its fall, or none
abbrev pub Falls : Type 0
Falls = ℕ → Option Fall

-- nobody falls
abbrev pub no_falls : Falls
no_falls q = None

-- box p falls besides, in round r, with s for its lost set
abbrev pub with_fall : ℕ → ℕ → BoxSet → Falls → Falls
with_fall r p s falls q = if q == p then Some (record { round = record { 0 = r }; lost = s }) else falls q

-- it fell before round r
abbrev pub fell_before : Option Fall → ℕ → Bool
fell_before None r = false
fell_before (Some f) r = nat_lt f.round.0 r

-- it fell in round r
abbrev pub fell_in : Option Fall → ℕ → Bool
fell_in None r = false
fell_in (Some f) r = f.round.0 == r

-- it fell in round r, and box p is in its lost set
abbrev pub fell_unheard : Option Fall → ℕ → ℕ → Bool
fell_unheard None r p = false
fell_unheard (Some f) r p = f.round.0 == r && member f.lost p

-- its fall, if it is of a round up to s
abbrev pub fall_so_far : ℕ → Option Fall → Option Fall
fall_so_far s fall = if fell_before fall (suc s) then fall else None

-- the falls of the rounds up to s
abbrev pub past_falls : ℕ → Falls → Falls
past_falls s falls q = fall_so_far s (falls q)

-- it fell neither before round r nor in it: the box closes the round
abbrev pub lasts : Option Fall → ℕ → Bool
lasts fall r = not (fell_before fall r || fell_in fall r)

-- it fell neither before round r, nor in it with box p in its lost set: what it sends in the round reaches p
abbrev pub reaches : Option Fall → ℕ → ℕ → Bool
reaches fall r p = not (fell_before fall r || fell_unheard fall r p)

module _ (falls : Falls) where
  -- box p closes round r
  unfoldable pub closes : ℕ → ℕ → Bool
  closes p r = lasts (falls p) r

  -- box p, which closes round r, hears box q in it: q is p itself, or what q sends reaches p
  unfoldable pub hears : ℕ → ℕ → ℕ → Bool
  hears p r q = q == p || reaches (falls q) r p

  -- box q of a company of n is found missing in round r: it fell before the round, or in it unheard by a box that closes the round
  unfoldable pub found_missing : ℕ → ℕ → ℕ → Bool
  found_missing n r q = fell_before (falls q) r || any (λ p. fell_unheard (falls q) r p && closes p r) n

  -- how many boxes of the company are found missing in round r
  abbrev pub missing_count : ℕ → ℕ → ℕ
  missing_count n r = count (found_missing n r) n

  -- the waste of the rounds up to r: the most by which the boxes found missing in one of them exceed its number. Round 0 counts 0
  unfoldable pub waste : ℕ → ℕ → ℕ
  waste n zero = 0
  waste n (suc r) = max (waste n r) (missing_count n (suc r) - suc r)
