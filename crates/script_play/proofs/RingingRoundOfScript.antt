-- In which round the boxes of a script ring, and what stands in their places then.
use Rattle.std.proofs.Common.{◌≡◌, ℕ, suc, ◌+◌, ◌-◌, ◌<◌, ◌≤◌, true, cond, eqb, leb, ltb, ◌⊎◌, Some, None, refl, ap, ◌∙◌, inl, inr, arith}
use Rattle.std.specs.List.{slice_get}
use Rattle.std.proofs.Math.Decide.{le_ind}
use Rattle.std.proofs.lemmas.Bool.{cases_lt}
use Rattle.std.proofs.lemmas.Bool.Decides.{nat_tests}
use Rattle.rule.specs.declared.falls.Fall.{Fall}
use Rattle.rule.specs.Falls.{lasts, past_falls, closes, waste}
use Rattle.rule.specs.Histories.{History, IsAllowed, ringing_round}
use Rattle.rule.specs.RuleValues as rule
use Rattle.rule.specs.HeldValues.{outcome_of}
use Rattle.rule.specs.RuleLaws.{RingsIn, Agreement, SomeRemains, OnlyPastCounts}
use Rattle.rule.proofs.WasteLemmas.{lacking_few, waste_few, waste_up}
use Rattle.machine.specs.Places.{down, state_of_outcome}
use Rattle.promise.specs.StateByHistory.{place_by_fall, place_by, row_by}
use Rattle.promise.proofs.StateByPlace.{at_place, rings_stands}
use Rattle.promise.proofs.SamePast.{rings_same}
use Rattle.scripts.specs.ScriptValues.{ScriptValues, KeepsLimits}
use Rattle.script_play.specs.ScriptCalls.{falls_of, ringing_round_of}
use Rattle.script_play.specs.PlayLaws.{EndsRinging, AllRing}
use Rattle.script_play.proofs.EntryLemmas.{so_far_before, history_to, history_all, all_allowed, to_allowed}
use Rattle.proposals.specs.Kinds.{Kind}

module _ {K : Type 0} (kind : Kind K) (agree : (h : History K) → Agreement h kind) (remains : (h : History K) → IsAllowed h → SomeRemains h)
    (only_past : (h : History K) → OnlyPastCounts h kind) (s : ScriptValues) (p : KeepsLimits s) (proposals : ℕ → K) where
  -- the waste of the rounds up to r, and all of it
  abbrev w : ℕ → ℕ
  w r = waste (falls_of s.entries) s.n r

  abbrev R : ℕ
  R = ringing_round_of s

  w_few : (r : ℕ) → w r ≤ s.t
  w_few = waste_few (history_all s p proposals 0) (all_allowed s p proposals 0)

  w_up : (a b : ℕ) → a ≤ b → w a ≤ w b
  w_up = waste_up (history_all s p proposals 0) (all_allowed s p proposals 0)

  -- the round is one of 1 to t + 1
  pub in_time : (1 ≤ R) × (R ≤ s.t + 1)
  in_time = let a = w_few (s.t + 1) in (omega arith, omega arith)

  -- rounds after it add nothing to the waste: no more than t boxes are missing
  below : w R < w (s.t + 1) → (m : ℕ) → R ≤ m → w m < w (s.t + 1)
  unfolding waste
  below l m le =
      le_ind (λ (k : ℕ). w k < w (s.t + 1)) l
      (λ k after e. let a = w_few (s.t + 1) in let b = lacking_few (history_all s p proposals 0) (all_allowed s p proposals 0) (suc k) in omega arith)
      m le

  settled : w R ≡ w (s.t + 1)
  settled = by (cases_lt (w R) (w (s.t + 1)))
    where
      by : (w R < w (s.t + 1)) ⊎ (w (s.t + 1) ≤ w R) → w R ≡ w (s.t + 1)
      by (inl l) = absurd (let k = below l (s.t + 1) in_time.1 in omega arith)
      by (inr m) = let u = w_up R (s.t + 1) in_time.1 in omega arith

  -- t + 1 - D by the falls so far is that by all
  round_to : (r : ℕ) → r ≤ R → ringing_round (history_to s p proposals R r) ≡ s.t + 1 - w r
  round_to r l = ap (λ d. s.t + 1 - d) (only_past (history_all s p proposals 0) R r 0 0 l).2

  rings_at : (r q : ℕ) → r ≤ R → q < s.n → closes (past_falls R (falls_of s.entries)) q r ≡ true
      → rule.rings (history_to s p proposals R r) q r ≡ eqb r (s.t + 1 - w r)
  rings_at r q l m c = (agree (history_to s p proposals R r) (to_allowed s p proposals R r)).0 q m c ∙ ap (eqb r) (round_to r l)

  abbrev h : History K
  h = history_to s p proposals R R

  all_ring : (q : ℕ) → q < s.n → closes h.falls q R ≡ true → RingsIn h q R
  all_ring q m c =
      (m, c, rings_at R q (omega arith) m c ∙ (let e = settled in let i = in_time in let k : eqb R (s.t + 1 - w R) ≡ true = grind (arith, nat_tests) in k))

  pub ends : EndsRinging kind h
  ends =
      let a = agree h (to_allowed s p proposals R R) in
      record {
        allowed = to_allowed s p proposals R R;
        round = let e = settled in let i = in_time in omega (arith, round_to R (omega arith));
        in_time = in_time;
        quiet = λ q k l rings. absurd (
            let r = agree (history_to s p proposals R k) (to_allowed s p proposals R k) in
            let same = rings_same kind only_past (history_to s p proposals R k) h k refl q k (omega arith) in
            let at = rings_at k q (omega arith) rings.0 rings.1 in
            let up = w_up k (s.t + 1) (let i = in_time in omega arith) in
            let is = rings.2 in
            grind (arith, nat_tests));
        all = all_ring;
        one = let r = remains h (to_allowed s p proposals R R) in (r.0, all_ring r.0 r.1 (r.2 R));
        agree = (a.3, a.4, a.5);
      }

  -- ---- what stands in the places

  place_is : (q : ℕ) → q < s.n → slice_get (row_by kind h) q ≡ Some (place_by kind h q)
  place_is q m = at_place kind h p.size q ∙ ap (λ b. cond b (Some (place_by kind h q)) None) (let k : ltb q s.n ≡ true = grind (arith, nat_tests) in k)

  down_at : (q : ℕ) (f : Fall) → h.falls q ≡ Some f → place_by kind h q ≡ down f.round
  down_at q f e =
      ap (λ o. place_by_fall o R (outcome_of h kind q R)) e
      ∙ ap (λ b. cond b (down f.round) (state_of_outcome (outcome_of h kind q R))) (let l = so_far_before R (falls_of s.entries q) f e in let k : leb f.round.0 R ≡ true = grind (arith, nat_tests) in k)

  closes_at : (q : ℕ) → h.falls q ≡ None → closes h.falls q R ≡ true
  unfolding closes
  closes_at q e = ap (λ o. lasts o R) e

  pub stands : AllRing kind h
  stands q m = (
    λ f e. place_is q m ∙ ap Some (down_at q f e),
    λ e. place_is q m ∙ ap Some (rings_stands kind h p.size (λ _. None) q (closes_at q e) (all_ring q m (closes_at q e)).2),
  )
