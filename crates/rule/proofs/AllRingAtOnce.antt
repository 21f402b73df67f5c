-- All that ring do so at once and on one proposal.
use Rattle.std.proofs.Common.{◌≡◌, ℕ, zero, suc, ◌+◌, ◌-◌, ◌<◌, ◌≤◌, ◌==◌, true, false, ◌⊎◌, is_some, inl, inr, ap, ◌∙◌, arith}
use Rattle.std.proofs.lemmas.Bool.{cases_lt, cases_order, eqb-true, eq-eqb}
use Rattle.std.proofs.lemmas.Bool.Decides.{nat_tests}
use Rattle.base.proofs.CountLemmas.{one_fails}
use Rattle.proposals.specs.Orders.{goes_before}
use Rattle.proposals.specs.Kinds.{Kind, IsOrder}
use Rattle.rule.specs.Falls.{closes, waste}
use Rattle.rule.specs.Histories.{History, IsAllowed, ringing_round}
use Rattle.rule.specs.RuleValues.{smallest, best_horizon, rings, estimate}
use Rattle.rule.specs.RuleLaws.{RingsIn, IsQuietBefore, SomeRemains, CompanyRings, RingsInTheRound, IsNeverPassed, RingsOnce, RingsOnOne, RingsOnProposal, RingsOnFirst}
use Rattle.rule.proofs.RoundLemmas.{open_fell}
use Rattle.rule.proofs.WasteLemmas.{waste_few, waste_up, waste_last, rings_when, rings_then, peak, peak_clean, clean_by, lacking_few}
use Rattle.rule.proofs.EstimateLemmas.{Agree, agree_clean, agree_from, estimate_proposed, estimate_leads}

module _ {K : Type 0} (h : History K) (allowed : IsAllowed h) where
  -- round r is t + 1 - D for the waste of the rounds up to it
  abbrev Due : ℕ → Type 0
  Due r = r + waste h.falls h.n r ≡ h.t + 1

  -- not all fall, so somebody closes every round
  survivor : (p : ℕ) × (p < h.n) × (is_some (h.falls p) ≡ false)
  survivor = one_fails (λ q. is_some (h.falls q)) h.n (let s = allowed.size in let f = allowed.few in grind (arith, nat_tests))

  survives : (p r : ℕ) → is_some (h.falls p) ≡ false → closes h.falls p r ≡ true
  unfolding closes
  survives p r e = let f = open_fell (h.falls p) r in grind arith

  pub remains : SomeRemains h
  remains = by survivor
    where
      by : (p : ℕ) × (p < h.n) × (is_some (h.falls p) ≡ false) → SomeRemains h
      by (p, l, e) = (p, l, λ r. survives p r e)

  -- who rings in a round does so in t + 1 - D, and who closes that round rings in it
  rings_due : (p r : ℕ) → RingsIn h p r → Due r
  unfolding best_horizon smallest
  rings_due p zero (l, c, e) = absurd (grind (arith, nat_tests))
  rings_due p (suc k) (l, c, e) = rings_when h allowed p k l c (unfold best_horizon in eqb-true _ _ e)

  due_rings : (p r : ℕ) → p < h.n → closes h.falls p r ≡ true → Due r → rings h p r ≡ true
  due_rings p zero l c e = absurd (let w = waste_few h allowed 0 in omega arith)
  due_rings p (suc k) l c e = eq-eqb _ _ (rings_then h allowed p k l c e)

  -- no two rounds are t + 1 - D, since the waste only grows
  due_once : (r s : ℕ) → Due r → Due s → r ≡ s
  due_once r s a b = by (cases_order r s)
    where
      by : (r ≡ s) ⊎ ((r < s) ⊎ (s < r)) → r ≡ s
      by (inl e) = e
      by (inr (inl l)) = absurd (omega (arith, waste_up h allowed r s (omega arith)))
      by (inr (inr l)) = absurd (omega (arith, waste_up h allowed s r (omega arith)))

  -- and one is: up to it the sum grows by one a round, and it cannot be passed
  abbrev DueBy : ℕ → Type 0
  DueBy r = ((k : ℕ) × (k ≤ r) × Due k) ⊎ (r + waste h.falls h.n r ≤ h.t)

  due_by : (r : ℕ) → DueBy r
  unfolding waste
  due_by zero = inr (omega arith)
  due_by (suc r) = by (due_by r) (cases_lt (h.t) (suc r + waste h.falls h.n (suc r)))
    where
      by : DueBy r → (h.t < suc r + waste h.falls h.n (suc r)) ⊎ (suc r + waste h.falls h.n (suc r) ≤ h.t) → DueBy (suc r)
      by (inl (k, l, d)) over = inl (k, omega arith, d)
      by (inr under) (inl over) = inl (suc r, omega arith, omega (arith, lacking_few h allowed (suc r)))
      by (inr under) (inr still) = inr still

  pub company_rings : CompanyRings h
  company_rings = by (due_by (h.t + 1))
    where
      by : DueBy (h.t + 1) → CompanyRings h
      by (inl (r, l, d)) =
          (r, omega (arith, waste_few h allowed r), l, λ p k m a. absurd (let e = due_once k r (rings_due p k a) d in omega arith), λ p l c. due_rings p r l c d)
      by (inr under) = absurd (omega arith)

  -- while nobody rang, the round t + 1 - D is not passed
  not_passed : (r : ℕ) → IsQuietBefore h r → r + waste h.falls h.n r ≤ h.t + 1
  unfolding waste
  not_passed zero quiet = omega arith
  not_passed (suc r) quiet = by remains (not_passed r (λ q k m. quiet q k (omega arith)))
    where
      by : SomeRemains h → r + waste h.falls h.n r ≤ h.t + 1 → suc r + waste h.falls h.n (suc r) ≤ h.t + 1
      by (p, l, all) ih =
          let off : Due r → ⊥ = λ d. quiet p r (omega arith) (l, all r, due_rings p r l (all r) d) in
          let few = lacking_few h allowed (suc r) in
          omega arith

  -- ---- the promise

  due_round : Due h.closed → h.closed ≡ ringing_round h
  due_round d = omega arith

  round_due : h.closed ≡ ringing_round h → Due h.closed
  round_due e = let w = waste_few h allowed h.closed in omega arith

  in_the_round : RingsInTheRound h
  in_the_round p l c =
      let a : rings h p h.closed ≡ true → h.closed ≡ ringing_round h = λ e. due_round (rings_due p h.closed (l, c, e)) in
      let b : h.closed ≡ ringing_round h → rings h p h.closed ≡ true = λ e. due_rings p h.closed l c (round_due e) in
      let is : rings h p h.closed ≡ (h.closed == ringing_round h) = grind (arith, nat_tests) in
      is

  never_passed : IsNeverPassed h
  never_passed quiet = let n = not_passed h.closed quiet in let is : h.closed ≤ h.t + 1 - waste h.falls h.n h.closed = omega arith in is

  once : RingsOnce h
  once p q r s a b = due_once r s (rings_due p r a) (rings_due q s b)

  module _ (kind : Kind K) (order : IsOrder kind.leads) where
    -- in round t + 1 - D all that close have the same estimate: a clean round lies behind them
    agreed : (r : ℕ) → Due r → Agree h kind order r
    agreed zero d = absurd (let w = waste_few h allowed 0 in omega arith)
    agreed (suc k) d =
        let q = peak h allowed k in
        let e = peak_clean h allowed k q (waste_last h allowed k d) in
        agree_from h kind order (suc q.top) (suc k) (agree_clean h kind order q.top (clean_by h q.top e)) (omega (arith, q.under))

    on_one : RingsOnOne h kind
    on_one p q a b = agreed h.closed (rings_due p h.closed a) p q a.0 b.0 a.1 b.1

    on_first : RingsOnFirst h kind
    on_first p q a b =
        let first = estimate_leads h kind order q h.closed b.0 in
        let same = on_one p q a b in
        let mine : kind.leads (estimate h kind p h.closed) (h.proposals q) ≡ true = ap (λ x. kind.leads x (h.proposals q)) same ∙ first in
        let is : goes_before kind.leads (h.proposals q) (estimate h kind p h.closed) ≡ false = grind arith in
        is

    pub agreement : RingsInTheRound h × IsNeverPassed h × RingsOnce h × RingsOnOne h kind × RingsOnProposal h kind × RingsOnFirst h kind
    agreement = (in_the_round, never_passed, once, on_one, λ p a. estimate_proposed h kind order h.closed p a.0, on_first)
