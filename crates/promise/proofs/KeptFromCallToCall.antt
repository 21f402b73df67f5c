-- What is kept from call to call: a ringing with its row is that of its history and its blows.
use Rattle.std.proofs.Common.{◌≡◌, ℕ, suc, false, List, is_some, Option}
use Rattle.proposals.specs.Kinds.{Kind}
use Rattle.rule.specs.Falls.{fell_before}
use Rattle.rule.specs.Histories.{History, IsAllowed}
use Rattle.rule.specs.RuleLaws.{IsQuietBefore}
use Rattle.machine.specs.declared.place.Blow.TheVariants as blow
use Rattle.machine.specs.State.{State}
use Rattle.machine.specs.RowCheck.{is_over}
use Rattle.machine.specs.OrderCalls.{with_blows}
use Rattle.promise.specs.CallLog.{Log}
use Rattle.promise.specs.StateByHistory.{state_by}

-- of a history: besides, no box falls later than in the round to come
pub record Going {K : Type 0} (kind : Kind K) (unopened : ℕ → Option (List ℕ)) (s : State K) (h : History K) : Type 0 where
  pub allowed : IsAllowed h
  pub quiet : IsQuietBefore h h.closed
  pub due : (q : ℕ) → is_some (h.falls q) ≡ fell_before (h.falls q) (suc (suc h.closed))
  pub is : s ≡ state_by kind h unopened

-- of a log: while nobody rings no order is drawn
pub record Kept {K : Type 0} (kind : Kind K) (unopened : ℕ → Option (List ℕ)) (s : State K) (c : Log K) : Type 0 where
  pub going : Going kind unopened (state_by kind c.history unopened) c.history
  pub is : s ≡ with_blows c.blows (state_by kind c.history unopened)
  pub fresh : is_over (state_by kind c.history unopened) ≡ false → (p : ℕ) → c.blows p ≡ blow.Undrawn
