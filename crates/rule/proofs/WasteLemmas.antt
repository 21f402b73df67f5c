-- How many are missing, the horizons that come of it, and the waste.
use Rattle.std.proofs.Common.{◌≡◌, ℕ, zero, suc, ◌+◌, ◌<◌, ◌≤◌, true, false, ◌⊎◌, is_some, refl, ap, ◌∙◌, inl, inr, ⊎_elim, arith}
use Rattle.std.proofs.Math.Decide.{le_ind}
use Rattle.std.proofs.lemmas.Bool.{cases_lt}
use Rattle.std.proofs.lemmas.Bool.Decides.{nat_tests}
use Rattle.base.specs.Counts.{count}
use Rattle.base.proofs.CountLemmas.{any_none, count_le, count_none, count_ext, count_same}
use Rattle.rule.specs.Falls.{fell_before, closes, found_missing, missing_count, waste}
use Rattle.rule.specs.Histories.{History, IsAllowed}
use Rattle.rule.specs.RuleValues.{known_missing, smallest, best_horizon, rings}
use Rattle.rule.proofs.RoundLemmas.{open_fell, closed_before, closed_from, missing_open, missing_stays, none_missing}
use Rattle.rule.proofs.CleanRound.{Clean, known_found, clean_known}

module _ {K : Type 0} (h : History K) where
  -- how many are found missing in round r
  abbrev lacking : ℕ → ℕ
  lacking r = missing_count h.falls h.n r

  known_count : (p r : ℕ) → closes h.falls p (suc r) ≡ true → count (known_missing h p (suc r)) h.n ≤ lacking r
  known_count p r c = count_le (known_missing h p (suc r)) (found_missing h.falls h.n r) h.n (λ q l. known_found h p r q c)

  -- a round in which no more are missing is clean
  pub clean_by : (r : ℕ) → lacking (suc r) ≤ lacking r → Clean h r
  clean_by r e =
      let grown = count_le (found_missing h.falls h.n r) (found_missing h.falls h.n (suc r)) h.n (λ q _. missing_stays h.falls h.n r q) in
      let same = count_same (found_missing h.falls h.n r) (found_missing h.falls h.n (suc r)) h.n (λ q _. missing_stays h.falls h.n r q) (omega arith) in
      λ q l m. same q l ∙ m

  missing_fell : (r q : ℕ) → found_missing h.falls h.n r q ≡ true → is_some (h.falls q) ≡ true
  unfolding closes
  missing_fell r q e = open_fell (h.falls q) r (let o = missing_open h.falls h.n r q e in grind arith)

  -- the best horizon only comes nearer
  pub best_down : (p a b : ℕ) → a ≤ b → best_horizon h p b ≤ best_horizon h p a
  unfolding best_horizon smallest
  best_down p a b l = le_ind (λ (m : ℕ). best_horizon h p m ≤ best_horizon h p a) (omega arith) (λ m k e. omega arith) b l

  module _ (allowed : IsAllowed h) where
    pub lacking_few : (r : ℕ) → lacking r ≤ h.t
    lacking_few r = omega (arith, count_le (found_missing h.falls h.n r) (λ q. is_some (h.falls q)) h.n (λ q _. missing_fell r q), allowed.few)

    -- rounds count from 1
    dated : (q : ℕ) → q < h.n → fell_before (h.falls q) 1 ≡ false
    dated = any_none (λ q. fell_before (h.falls q) 1) h.n allowed.dated

    lacking_none : lacking 0 ≡ 0
    lacking_none = count_ext (found_missing h.falls h.n 0) (λ _. false) h.n (λ q l. none_missing h.falls h.n q (dated q l)) ∙ count_none h.n

    clean_count : (p r : ℕ) → p < h.n → closes h.falls p (suc r) ≡ true → Clean h r → lacking r ≤ count (known_missing h p (suc r)) h.n
    clean_count p r l c k = count_le (found_missing h.falls h.n r) (known_missing h p (suc r)) h.n (λ q m. clean_known h p r q (dated q m) l c k)

    -- it is never below what the waste of the rounds before allows
    best_waste : (p r : ℕ) → closes h.falls p (suc r) ≡ true → h.t + 1 ≤ best_horizon h p (suc r) + waste h.falls h.n r
    unfolding best_horizon smallest waste
    best_waste p zero c = let a = known_count p 0 c in let b = lacking_none in omega arith
    best_waste p (suc r) c =
        let ih = best_waste p r (closed_before h.falls p (suc r) c) in
        let a = known_count p (suc r) c in
        let b = lacking_few (suc r) in
        omega arith

    -- nor, where the box did not ring before, below the round
    pub best_late : (p r : ℕ) → closes h.falls p r ≡ true → ((k : ℕ) → k < r → rings h p k ≡ false) → r ≤ best_horizon h p r
    unfolding best_horizon smallest
    best_late p zero c quiet = omega arith
    best_late p (suc r) c quiet =
        let ih = best_late p r (closed_before h.falls p r c) (λ k m. quiet k (omega arith)) in
        let s = quiet r (omega arith) in
        let a = known_count p r c in
        let b = lacking_few r in
        grind (arith, nat_tests)

    -- after a clean round it is at most t + 1 less the excess there
    best_clean : (p r k : ℕ) → p < h.n → closes h.falls p k ≡ true → suc r ≤ k → lacking (suc r) ≤ lacking r
        → best_horizon h p k + lacking r ≤ h.t + suc r
    unfolding best_horizon smallest
    best_clean p r k l c m e =
        let d = closed_from h.falls p (suc r) k m c in
        let a = clean_count p r l d (clean_by r e) in
        let b = best_down p (suc r) k m in
        let f = lacking_few r in
        omega arith

    pub waste_few : (r : ℕ) → waste h.falls h.n r ≤ h.t
    unfolding waste
    waste_few zero = omega arith
    waste_few (suc r) = omega (arith, waste_few r, lacking_few (suc r))

    pub waste_up : (a b : ℕ) → a ≤ b → waste h.falls h.n a ≤ waste h.falls h.n b
    unfolding waste
    waste_up a b l = le_ind (λ (m : ℕ). waste h.falls h.n a ≤ waste h.falls h.n m) (omega arith) (λ m k e. omega arith) b l

    -- the last round up to k that reaches their waste: the round after it is clean, unless it is k itself
    pub record Peak (k : ℕ) : Type 0 where
      pub top : ℕ
      pub under : top ≤ k
      pub reached : lacking top ≡ top + waste h.falls h.n k
      pub next : (top ≡ k) ⊎ (lacking (suc top) ≤ lacking top)

    pub peak : (k : ℕ) → Peak k
    unfolding waste
    peak zero = record { top = 0; under = omega arith; reached = omega (arith, lacking_none); next = inl (omega arith) }
    peak (suc k) = by (peak k) (cases_lt (lacking (suc k)) (suc k + waste h.falls h.n k))
      where
        still : (q : Peak k) → lacking (suc k) < suc k + waste h.falls h.n k → (q.top ≡ k) ⊎ (lacking (suc q.top) ≤ lacking q.top)
            → lacking (suc q.top) ≤ lacking q.top
        still q b (inl e) = let f : lacking (suc q.top) ≡ lacking (suc k) = ap (λ r. lacking (suc r)) e in omega (arith, q.reached)
        still q b (inr d) = d

        by : Peak k → (lacking (suc k) < suc k + waste h.falls h.n k) ⊎ (suc k + waste h.falls h.n k ≤ lacking (suc k)) → Peak (suc k)
        by q (inl b) = record { top = q.top; under = omega (arith, q.under); reached = omega (arith, q.reached); next = inr (still q b q.next) }
        by q (inr b) = record { top = suc k; under = omega arith; reached = omega arith; next = inl refl }

    -- where round k + 1 is t + 1 - D, the round after the peak of those before it is clean
    pub peak_clean : (k : ℕ) (q : Peak k) → suc k + waste h.falls h.n k ≡ h.t + 1 → lacking (suc q.top) ≤ lacking q.top
    peak_clean k q e = ⊎_elim (λ i. omega (arith, q.reached, lacking_few (suc q.top))) (λ d. d) q.next

    -- that round's own missing add nothing to the waste
    pub waste_last : (k : ℕ) → suc k + waste h.falls h.n (suc k) ≡ h.t + 1 → suc k + waste h.falls h.n k ≡ h.t + 1
    unfolding waste
    waste_last k e = omega (arith, lacking_few (suc k))

    waste_next : (k : ℕ) → suc k + waste h.falls h.n k ≡ h.t + 1 → suc k + waste h.falls h.n (suc k) ≡ h.t + 1
    unfolding waste
    waste_next k e = omega (arith, lacking_few (suc k))

    -- ---- a box that closes round k + 1 rings in it exactly if that is t + 1 - D

    module _ (p k : ℕ) (l : p < h.n) (c : closes h.falls p (suc k) ≡ true) where
      pub rings_when : best_horizon h p (suc k) ≡ suc k → suc k + waste h.falls h.n (suc k) ≡ h.t + 1
      rings_when e =
          let s = best_waste p k c in
          let q = peak k in
          waste_next k (⊎_elim
          (λ i. omega (arith, lacking_few q.top, q.reached))
          (λ d. let b = best_clean p q.top (suc k) l c (omega (arith, q.under)) d in omega (arith, q.reached))
          q.next)

      pub rings_then : suc k + waste h.falls h.n (suc k) ≡ h.t + 1 → best_horizon h p (suc k) ≡ suc k
      rings_then e =
          let q = peak k in
          let s = waste_last k e in
          let w = best_waste p k c in
          let b = best_clean p q.top (suc k) l c (omega (arith, q.under)) (peak_clean k q s) in
          omega (arith, q.reached)
