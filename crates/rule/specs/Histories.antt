-- A history: all that the rule goes by. To be believed for the promise.
use Rattle.std.specs.Prelude.{◌≡◌, ℕ, ◌+◌, ◌-◌, ◌≤◌, true, false, is_some}
use Rattle.base.specs.Counts.{any, count}
use Rattle.sets.specs.Companies.{is_company}
use Rattle.rule.specs.Falls.{Falls, fell_before, past_falls, waste}

-- a company of n boxes, of which t may fall; what each proposed, of each its fall if it fell, and how many rounds are closed. What stands
-- for numbers from n on does not count
pub record History (K : Type 0) : Type 0 where
  pub n : ℕ
  pub t : ℕ
  pub proposals : ℕ → K
  pub falls : Falls
  pub closed : ℕ

-- a history keeps the limits: n and t are those of a company, rounds count from 1, and at most t boxes fall
pub record IsAllowed {K : Type 0} (h : History K) : Type 0 where
  pub size : is_company h.n h.t ≡ true
  pub dated : any (λ q. fell_before (h.falls q) 1) h.n ≡ false
  pub few : count (λ q. is_some (h.falls q)) h.n ≤ h.t

-- the round t + 1 - D, where D is the waste of the closed rounds: in it the boxes ring
abbrev pub ringing_round : {K : Type 0} → History K → ℕ
ringing_round h = h.t + 1 - waste h.falls h.n h.closed

-- the history as it stood after round s: what was to come is left out
abbrev pub as_of : {K : Type 0} → ℕ → History K → History K
as_of s h = record h { falls = past_falls s h.falls; closed = s }
