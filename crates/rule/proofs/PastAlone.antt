-- What is still to come does not count.
use Rattle.std.proofs.Common.{◌≡◌, ℕ, zero, suc, ◌+◌, ◌-◌, ◌≤◌, max, min, true, false, cond, not, ◌&&◌, ◌||◌, eqb, ltb, ◌⊎◌, Some, None, Option, unwrap_or, sym, refl, ap, ◌∙◌, inl, inr, arith}
use Rattle.std.proofs.lemmas.Bool.{cases_Bool, eqb-true}
use Rattle.std.proofs.lemmas.Bool.Decides.{nat_tests}
use Rattle.base.specs.Counts.{any, count}
use Rattle.sets.specs.Masks.{set_of}
use Rattle.proposals.specs.Orders.{foremost}
use Rattle.proposals.specs.Kinds.{Kind}
use Rattle.rule.specs.declared.falls.Fall.{Fall}
use Rattle.rule.specs.Falls.{Falls, with_fall, fall_so_far, past_falls, fell_before, fell_in, fell_unheard, closes, hears, found_missing, waste}
use Rattle.rule.specs.Histories.{History, as_of}
use Rattle.rule.specs.RuleValues.{missing_after, known_missing, smallest, best_horizon, estimate}
use Rattle.rule.specs.HeldValues.{held_after}
use Rattle.rule.specs.RuleLaws.{OnlyPastCounts, FallToComeCountsNot}

-- ---- one box

-- what holds of no fall as of one still to come, holds of the fall so far
same_so_far : {X : Type 0} (g : Option Fall → X) (s : ℕ) (o : Option Fall) → (fell_before o (suc s) ≡ false → g None ≡ g o)
    → g (fall_so_far s o) ≡ g o
same_so_far g s o f = by (cases_Bool (fell_before o (suc s)))
  where
    by : (fell_before o (suc s) ≡ true) ⊎ (fell_before o (suc s) ≡ false) → g (fall_so_far s o) ≡ g o
    by (inl t) = ap (λ b. g (cond b o None)) t
    by (inr e) = ap (λ b. g (cond b o None)) e ∙ f e

module _ (s r : ℕ) (l : r ≤ s) where
  to_come : (o : Option Fall) (p : ℕ) → fell_before o (suc s) ≡ false
      → (fell_before o r ≡ false) × (fell_in o r ≡ false) × (fell_unheard o r p ≡ false)
  to_come None p e = (refl, refl, refl)
  to_come (Some f) p e = (grind (arith, nat_tests), grind (arith, nat_tests), grind (arith, nat_tests))

  before_past : (o : Option Fall) → fell_before (fall_so_far s o) r ≡ fell_before o r
  before_past o = same_so_far (λ x. fell_before x r) s o (λ e. sym (to_come o 0 e).0)

  unheard_past : (o : Option Fall) (p : ℕ) → fell_unheard (fall_so_far s o) r p ≡ fell_unheard o r p
  unheard_past o p = same_so_far (λ x. fell_unheard x r p) s o (λ e. sym (to_come o p e).2)

  in_past : (o : Option Fall) → fell_in (fall_so_far s o) r ≡ fell_in o r
  in_past o = same_so_far (λ x. fell_in x r) s o (λ e. sym (to_come o 0 e).1)

  -- ---- all of them

  module _ (falls : Falls) where
    closes_past : (p : ℕ) → closes (past_falls s falls) p r ≡ closes falls p r
    unfolding closes
    closes_past p = λ j. not (before_past (falls p) j || in_past (falls p) j)

    hears_past : (p q : ℕ) → hears (past_falls s falls) p r q ≡ hears falls p r q
    unfolding hears
    hears_past p q = λ j. eqb q p || not (before_past (falls q) j || unheard_past (falls q) p j)

    found_past : (n q : ℕ) → found_missing (past_falls s falls) n r q ≡ found_missing falls n r q
    unfolding found_missing
    found_past n q = λ j. before_past (falls q) j || any (λ p. unheard_past (falls q) p j && closes_past p j) n

waste_past : (falls : Falls) (n s r : ℕ) → r ≤ s → waste (past_falls s falls) n r ≡ waste falls n r
unfolding waste
waste_past falls n s zero l = refl
waste_past falls n s (suc r) l = let ih = waste_past falls n s r (omega arith) in λ j. max (ih j) (count (λ q. found_past s (suc r) l falls n q j) n - suc r)

-- a box that falls in a round to come leaves the falls up to then as they are
pub fall_to_come : FallToComeCountsNot
fall_to_come falls s r p lost none l = λ j q. at q (cases_Bool (eqb q p)) j
  where
    at : (q : ℕ) → (eqb q p ≡ true) ⊎ (eqb q p ≡ false) → past_falls s (with_fall r p lost falls) q ≡ past_falls s falls q
    at q (inl e) =
        let was : falls q ≡ None = ap falls (eqb-true q p e) ∙ none in
        let late : ltb r (suc s) ≡ false = grind (arith, nat_tests) in
        ap (λ b. fall_so_far s (cond b (Some (record { round = record { 0 = r }; lost = lost })) (falls q))) e
        ∙ ap (λ b. cond b (Some (record { round = record { 0 = r }; lost = lost })) None) late
        ∙ sym (ap (fall_so_far s) was)
    at q (inr e) = ap (λ b. fall_so_far s (cond b (Some (record { round = record { 0 = r }; lost = lost })) (falls q))) e

-- ---- the values

module _ {K : Type 0} (h : History K) (kind : Kind K) (s : ℕ) where
  missed_past : (p r q : ℕ) → r ≤ s → missing_after (as_of s h) p r q ≡ missing_after h p r q
  unfolding missing_after
  missed_past p zero q l = refl
  missed_past p (suc r) q l = ap not (hears_past s (suc r) l h.falls p q)

  known_past : (p r q : ℕ) → r ≤ s → known_missing (as_of s h) p r q ≡ known_missing h p r q
  unfolding known_missing
  known_past p zero q l = refl
  known_past p (suc r) q l = λ j. any (λ x. hears_past s (suc r) l h.falls p x j && missed_past x r q (omega arith) j) h.n

  best_past : (p r : ℕ) → r ≤ s → best_horizon (as_of s h) p r ≡ best_horizon h p r
  unfolding best_horizon smallest
  best_past p zero l = refl
  best_past p (suc r) l = let ih = best_past p r (omega arith) in λ j. min (ih j) (suc r + h.t - count (λ q. known_past p (suc r) q l j) h.n)

  estimate_past : (r p : ℕ) → r ≤ s → estimate (as_of s h) kind p r ≡ estimate h kind p r
  unfolding estimate
  estimate_past zero p l = refl
  estimate_past (suc r) p l =
      let ih = λ (q : ℕ). estimate_past r q (omega arith) in
      λ j. unwrap_or (foremost kind.leads (λ q. hears_past s (suc r) l h.falls p q j) (λ q. ih q j) h.n) (ih p j)

  held_past : (p r : ℕ) → r ≤ s → held_after (as_of s h) kind p r ≡ held_after h kind p r
  unfolding held_after
  held_past p r l = λ j. record {
    number = record { 0 = p };
    n = h.n;
    t = h.t;
    closed = r;
    estimate = estimate_past r p l j;
    missing = set_of (λ q. ltb q h.n && missed_past p r q l j);
    horizon = record { 0 = best_past p r l j };
  }

pub only_past : {K : Type 0} (h : History K) (kind : Kind K) → OnlyPastCounts h kind
only_past h kind s r p q l = (closes_past s r l h.falls p, hears_past s r l h.falls p q, waste_past h.falls h.n s r l, held_past h kind s p r l)
