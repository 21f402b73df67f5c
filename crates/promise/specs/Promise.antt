-- The promise: what is told of the boxes after a list of calls, by the history that the calls and their answers give.
-- To be believed for the promise.
use Rattle.std.specs.Prelude.{◌≡◌, ℕ, ◌+◌, ◌<◌, ◌≤◌, Bool, true, false, if◌then◌else◌, ◌&&◌, List, [], ◌∷◌, Ok, Err, Result, ◌==◌, nat_le, nat_lt}
use Rattle.base.specs.declared.refusal.Refusal.{Refusal}
use Rattle.sets.specs.declared.box_number.BoxNumber.{BoxNumber}
use Rattle.proposals.specs.Orders.{goes_before}
use Rattle.proposals.specs.Kinds.{Kind}
use Rattle.rule.specs.Falls.{closes}
use Rattle.rule.specs.Histories.{History, ringing_round}
use Rattle.rule.specs.RuleValues.{estimate}
use Rattle.rule.specs.RuleLaws.{BoxBegins, BoxRests, BoxFollowsSent}
use Rattle.machine.specs.declared.place.Rung.{Rung}
use Rattle.machine.specs.declared.place.Standing.{Standing}
use Rattle.machine.specs.declared.place.Standing.TheVariants as standing
use Rattle.machine.specs.State.{State}
use Rattle.machine.specs.AskCall.{on_ask}
use Rattle.promise.specs.declared.request.Request.{Request}
use Rattle.promise.specs.declared.request.Request.TheVariants as request
use Rattle.promise.specs.declared.request.Reply.{Reply}
use Rattle.promise.specs.declared.request.Reply.TheVariants as reply
use Rattle.promise.specs.CallLog.{Answer}

-- ---- all ring at once

-- it is told of box p that it rings, with this round, proposal and blow. The blow may be any: rings, out, struck and missed all count as
-- ringing
abbrev pub ToldRinging : {K : Type 0} → State K → BoxNumber → Rung K → Type 0
ToldRinging s p x = on_ask p s ≡ Ok (standing.Rung x)

-- whether what is told is that the box rings
abbrev pub tells_ringing : {K : Type 0} → Result (Standing K) Refusal → Bool
tells_ringing (Ok standing.Up) = false
tells_ringing (Ok (standing.Down r)) = false
tells_ringing (Ok (standing.Rung x)) = true
tells_ringing (Err e) = false

-- box p is of the company and closed round r: r is one of the rounds closed, which are 1 to their count, and p fell neither before it nor in
-- it
abbrev pub has_closed : {K : Type 0} → History K → ℕ → ℕ → Bool
has_closed h p r = nat_lt p h.n && nat_le 1 r && nat_le r h.closed && closes h.falls p r

-- what is promised of what is told of the boxes, in a state to which calls with this history led
pub record OneRing {K : Type 0} (kind : Kind K) (s : State K) (h : History K) : Type 0 where
  -- all boxes that ring do so in one round and on one proposal
  pub one_round : (p q : BoxNumber) (x y : Rung K) → ToldRinging s p x → ToldRinging s q y → x.round ≡ y.round
  pub one_proposal : (p q : BoxNumber) (x y : Rung K) → ToldRinging s p x → ToldRinging s q y → x.proposal ≡ y.proposal
  -- which is the estimate that each of them reaches in that round, by who hears whom
  pub reached : (p : BoxNumber) (x : Rung K) → ToldRinging s p x → x.proposal ≡ estimate h kind p.0 x.round.0
  -- a box proposed it, and no ringing box proposed one that goes before it
  pub proposed : (p : BoxNumber) (x : Rung K) → ToldRinging s p x → (q : ℕ) × (q < h.n) × (x.proposal ≡ h.proposals q)
  pub foremost : (p q : BoxNumber) (x y : Rung K) → ToldRinging s p x → ToldRinging s q y
      → goes_before kind.leads (h.proposals q.0) x.proposal ≡ false
  -- a box rings exactly when it closed round t + 1 - D, and that is the one round
  pub exactly : (p : BoxNumber) → tells_ringing (on_ask p s) ≡ has_closed h p.0 (ringing_round h)
  pub at : (p : BoxNumber) (x : Rung K) → ToldRinging s p x → x.round.0 ≡ ringing_round h
  -- and estimates are what the boxes' own closing gives: a new box begins with the rule's values; while one has not rung there is a box at
  -- rest with them; and such a box, told the frames of just the boxes that it hears in the next round, closes that round to its values
  pub begins : BoxBegins h kind
  pub rests : BoxRests h kind
  pub closes : BoxFollowsSent h kind

-- ---- each strike order is given back at most once

-- the call is accepted, and passes a test, which is of a call and its reply
abbrev pub is_accepted_as : {K : Type 0} → (Request → Reply K → Bool) → Request → Answer K → Bool
is_accepted_as test c (Ok r) = test c r
is_accepted_as test c (Err e) = false

-- how many of a list do
unfoldable pub count_accepted : {K : Type 0} → (Request → Reply K → Bool) → List Request → List (Answer K) → ℕ
count_accepted test [] answers = 0
count_accepted test (c ∷ calls) [] = 0
count_accepted test (c ∷ calls) (a ∷ answers) = (if is_accepted_as test c a then 1 else 0) + count_accepted test calls answers

module _ {K : Type 0} where
  -- the call draws an order of box p
  abbrev pub draws : ℕ → Request → Reply K → Bool
  draws p (request.Draw q) r = q.0 == p
  draws p (request.Fall q lost) r = false
  draws p (request.Round room) r = false
  draws p (request.Ask q) r = false
  draws p (request.Struck q k) r = false
  draws p (request.Missed q k) r = false

  -- the reply hands out an order of round k
  abbrev pub is_for : ℕ → Reply K → Bool
  is_for k reply.Done = false
  is_for k (reply.Told x) = false
  is_for k (reply.Drawn r) = r.0 == k

  -- the call hands out the order of box p and round k
  abbrev pub hands_out : ℕ → ℕ → Request → Reply K → Bool
  hands_out p k c r = draws p c r && is_for k r

  -- the call gives back the order of box p and round k, as struck or as missed
  abbrev pub gives_back : ℕ → ℕ → Request → Reply K → Bool
  gives_back p k (request.Struck q r) _ = q.0 == p && r.0 == k
  gives_back p k (request.Missed q r) _ = q.0 == p && r.0 == k
  gives_back p k (request.Fall q lost) _ = false
  gives_back p k (request.Round room) _ = false
  gives_back p k (request.Ask q) _ = false
  gives_back p k (request.Draw q) _ = false

  -- of each box an order is handed out at most once; and each order is given back at most once, and not unless it was handed out. That it
  -- was handed out before follows by taking the list up to that report
  pub record OrdersOnce (calls : List Request) (answers : List (Answer K)) : Type 0 where
    pub drawn : (p : ℕ) → count_accepted (draws p) calls answers ≤ 1
    pub returned : (p k : ℕ) → count_accepted (gives_back p k) calls answers ≤ 1
    pub was_drawn : (p k : ℕ) → count_accepted (gives_back p k) calls answers ≤ count_accepted (hands_out p k) calls answers
