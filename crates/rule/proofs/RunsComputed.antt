-- The worked runs, by computation.
use Rattle.std.proofs.Common.{◌≡◌, ℕ, ◌≤◌, false, is_some, refl, lit≤}
use Rattle.base.specs.Counts.{any, count}
use Rattle.sets.specs.Masks.{bit, mask_of}
use Rattle.proposals.specs.Orders.{foremost}
use Rattle.rule.specs.Falls.{Falls, no_falls, fell_before, closes, hears, found_missing, waste}
use Rattle.rule.specs.Histories.{IsAllowed}
use Rattle.rule.specs.RuleValues.{missing_after, known_missing, smallest, best_horizon, estimate}
use Rattle.rule.specs.RunExamples.{four, two, one_falls, two_at_once, two_unheard, one_after_another, two_heard, chain, other_falls, WorkedRuns, WorkedRounds, NearlyRightFails}

four_allowed : (falls : Falls) (closed : ℕ) → any (λ q. fell_before (falls q) 1) 4 ≡ false → count (λ q. is_some (falls q)) 4 ≤ 2
    → IsAllowed (four falls closed)
four_allowed falls closed dated few = record { size = refl; dated = dated; few = few }

two_allowed : (falls : Falls) (closed : ℕ) → any (λ q. fell_before (falls q) 1) 2 ≡ false → count (λ q. is_some (falls q)) 2 ≤ 1
    → IsAllowed (two falls closed)
two_allowed falls closed dated few = record { size = refl; dated = dated; few = few }

pub runs : WorkedRuns
unfolding any count bit mask_of foremost closes hears found_missing waste missing_after known_missing smallest best_horizon estimate
runs = (
  (four_allowed no_falls 3 refl (lit≤ tt), refl, refl, refl, refl),
  (four_allowed one_falls 3 refl (lit≤ tt), refl, refl, refl, refl),
  (four_allowed two_unheard 2 refl (lit≤ tt), refl, refl, refl, refl),
  (four_allowed two_at_once 2 refl (lit≤ tt), refl, refl, refl, refl),
  (four_allowed one_after_another 3 refl (lit≤ tt), refl, refl, refl, refl),
  (four_allowed two_heard 3 refl (lit≤ tt), refl, refl, refl, refl),
  (four_allowed chain 3 refl (lit≤ tt), refl, refl, refl, refl),
  (two_allowed no_falls 2 refl (lit≤ tt), refl, refl, refl, refl),
  (two_allowed (other_falls 2) 2 refl (lit≤ tt), refl, refl, refl, refl),
  (two_allowed (other_falls 3) 2 refl (lit≤ tt), refl, refl, refl, refl),
)

pub rounds : WorkedRounds
unfolding any count bit mask_of foremost closes hears found_missing waste missing_after known_missing estimate
rounds = (refl, refl, refl, refl, refl, refl, refl, refl, refl, refl, refl, refl, refl, refl, refl, refl, refl, refl, refl, refl, refl)

pub nearly_right : NearlyRightFails
unfolding any count bit mask_of closes hears missing_after known_missing smallest
nearly_right = (refl, refl, refl, refl, refl, refl, refl, refl)
