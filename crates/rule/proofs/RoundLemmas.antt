-- Who closes a round, who hears whom in it, who is found missing.
use Rattle.std.proofs.Common.{◌≡◌, ℕ, suc, ◌<◌, ◌≤◌, true, false, not, ◌&&◌, ◌||◌, eqb, is_some, Some, None, Option, refl, ap, ◌∙◌, arith}
use Rattle.std.proofs.Math.Decide.{le_ind}
use Rattle.std.proofs.lemmas.Bool.Decides.{nat_tests}
use Rattle.base.specs.Counts.{any}
use Rattle.base.proofs.CountLemmas.{any_from, any_has, none_any}
use Rattle.rule.specs.declared.falls.Fall.{Fall}
use Rattle.rule.specs.RuleLaws.{NoFallMeans, FallMeans}
use Rattle.rule.specs.Falls.{Falls, fell_before, fell_in, fell_unheard, lasts, reaches, closes, hears, found_missing}

-- ---- one box that falls

pub fell_next : (o : Option Fall) (r : ℕ) → fell_before o (suc r) ≡ (fell_before o r || fell_in o r)
fell_next None r = refl
fell_next (Some f) r = grind (arith, nat_tests)

pub fell_once : (o : Option Fall) (r : ℕ) → fell_before o r ≡ true → fell_in o r ≡ false
fell_once None r e = refl
fell_once (Some f) r e = grind (arith, nat_tests)

-- who does not close a round falls
pub open_fell : (o : Option Fall) (r : ℕ) → lasts o r ≡ false → is_some o ≡ true
open_fell None r e = absurd (grind arith)
open_fell (Some f) r e = refl

unheard_fell : (o : Option Fall) (r p : ℕ) → fell_unheard o r p ≡ true → fell_in o r ≡ true
unheard_fell None r p e = e
unheard_fell (Some f) r p e = grind arith

-- ---- what falls mean

pub stands_mean : NoFallMeans
unfolding closes hears
stands_mean falls p q r e = (ap (λ o. lasts o r) e, ap (λ o. eqb q p || reaches o r p) e ∙ (grind arith))

pub falls_mean : FallMeans
unfolding closes hears
falls_mean falls p q r f e other = (
  ap (λ o. lasts o r) e ∙ (grind (arith, nat_tests)),
  λ l. ap (λ o. eqb q p || reaches o r p) e ∙ (grind (arith, nat_tests)),
  λ l. ap (λ o. eqb q p || reaches o r p) e ∙ (grind (arith, nat_tests)),
  λ l. ap (λ o. eqb q p || reaches o r p) e ∙ (grind (arith, nat_tests)),
)

module _ (falls : Falls) where
  -- ---- who closes

  pub closed_before : (p r : ℕ) → closes falls p (suc r) ≡ true → closes falls p r ≡ true
  unfolding closes
  closed_before p r c = let n = fell_next (falls p) r in grind arith

  pub closed_from : (p a b : ℕ) → a ≤ b → closes falls p b ≡ true → closes falls p a ≡ true
  closed_from p a b l = le_ind (λ (m : ℕ). closes falls p m ≡ true → closes falls p a ≡ true) (λ c. c) (λ m k e c. e (closed_before p m c)) b l

  -- to fall before round r + 1 is not to close round r
  pub fell_closes : (q r : ℕ) → fell_before (falls q) (suc r) ≡ not (closes falls q r)
  unfolding closes
  fell_closes q r = let n = fell_next (falls q) r in grind arith

  before_open : (q r : ℕ) → fell_before (falls q) r ≡ true → closes falls q r ≡ false
  unfolding closes
  before_open q r e = grind arith

  pub unheard_open : (q r p : ℕ) → fell_unheard (falls q) r p ≡ true → closes falls q r ≡ false
  unfolding closes
  unheard_open q r p e = let f = unheard_fell (falls q) r p e in grind arith

  -- ---- who hears whom

  pub hears_itself : (p r : ℕ) → hears falls p r p ≡ true
  unfolding hears
  hears_itself p r = grind (arith, nat_tests)

  -- who is heard in round r + 1 closed round r
  pub heard_closed : (p r x : ℕ) → closes falls p (suc r) ≡ true → hears falls p (suc r) x ≡ true → closes falls x r ≡ true
  unfolding hears
  heard_closed p r x c e =
      let a = closed_before p r c in
      let b = fell_closes x r in
      grind (arith, nat_tests)

  -- who closes a round is heard in it by all
  pub closing_heard : (p r x : ℕ) → closes falls x r ≡ true → hears falls p r x ≡ true
  unfolding hears
  closing_heard p r x c =
      let a = before_open x r in
      let b = unheard_open x r p in
      grind arith

  -- a box that closes a round does not hear in it who fell before, nor who fell in it unheard by the box
  pub fell_not_heard : (p r q : ℕ) → closes falls p r ≡ true → (fell_before (falls q) r || fell_unheard (falls q) r p) ≡ true
      → hears falls p r q ≡ false
  unfolding hears
  fell_not_heard p r q c e =
      let a = before_open q r in
      let b = unheard_open q r p in
      let other : eqb q p ≡ false = grind (arith, nat_tests) in
      grind arith

  -- ---- who is found missing

  -- rounds count from 1: nobody is missing at the start
  pub none_missing : (n q : ℕ) → fell_before (falls q) 1 ≡ false → found_missing falls n 0 q ≡ false
  unfolding found_missing
  none_missing n q dated =
      let s = fell_next (falls q) 0 in
      let a = none_any (λ p. fell_unheard (falls q) 0 p && closes falls p 0) n (λ p _. let u = unheard_fell (falls q) 0 p in grind arith) in
      grind arith

  module _ (n : ℕ) where
    pub missing_open : (r q : ℕ) → found_missing falls n r q ≡ true → closes falls q r ≡ false
    unfolding found_missing
    missing_open r q e = by (any_has (λ p. fell_unheard (falls q) r p && closes falls p r) n)
      where
        some : (p : ℕ) × (p < n) × ((fell_unheard (falls q) r p && closes falls p r) ≡ true) → closes falls q r ≡ false
        some (p, l, t) = unheard_open q r p (grind arith)

        by : (any (λ p. fell_unheard (falls q) r p && closes falls p r) n ≡ true
            → (p : ℕ) × (p < n) × ((fell_unheard (falls q) r p && closes falls p r) ≡ true)) → closes falls q r ≡ false
        by has =
            let b = before_open q r in
            let u : any (λ p. fell_unheard (falls q) r p && closes falls p r) n ≡ true → closes falls q r ≡ false = λ t. some (has t) in
            grind arith

    -- who is missing stays so
    pub missing_stays : (r q : ℕ) → found_missing falls n r q ≡ true → found_missing falls n (suc r) q ≡ true
    unfolding found_missing
    missing_stays r q e = let o = missing_open r q e in let b = fell_closes q r in grind arith

    -- whom a box that closes the round does not hear is found missing
    pub not_heard_missing : (p r q : ℕ) → p < n → closes falls p r ≡ true → hears falls p r q ≡ false → found_missing falls n r q ≡ true
    unfolding found_missing hears
    not_heard_missing p r q l c e =
        let a = any_from (λ x. fell_unheard (falls q) r x && closes falls x r) n p l in
        grind arith
