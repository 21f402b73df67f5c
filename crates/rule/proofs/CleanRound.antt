-- What boxes know to be missing, and that in a round in which nobody more is found missing all know the same.
use Rattle.std.proofs.Common.{◌≡◌, ℕ, zero, suc, ◌<◌, true, false, not, ◌&&◌, ◌||◌, ◌⊎◌, ap, inl, inr, arith}
use Rattle.std.proofs.lemmas.Bool.{both_ways, cases_Bool}
use Rattle.base.specs.Counts.{any}
use Rattle.base.specs.CountLaws.{IsWithin}
use Rattle.base.proofs.CountLemmas.{any_from, any_has}
use Rattle.rule.specs.Falls.{fell_before, fell_unheard, closes, hears, found_missing}
use Rattle.rule.specs.Histories.{History}
use Rattle.rule.specs.RuleValues.{missing_after, known_missing}
use Rattle.rule.proofs.RoundLemmas.{closed_before, heard_closed, fell_not_heard, none_missing, missing_open, not_heard_missing}

module _ {K : Type 0} (h : History K) where
  -- a box that closes a round misses only who is found missing in it
  pub missed_missing : (p r q : ℕ) → p < h.n → closes h.falls p r ≡ true → missing_after h p r q ≡ true
      → found_missing h.falls h.n r q ≡ true
  unfolding missing_after
  missed_missing p zero q l c e = absurd (grind arith)
  missed_missing p (suc r) q l c e = not_heard_missing h.falls h.n p (suc r) q l c (grind arith)

  -- and knows missing only who was found so in the round before
  pub known_found : (p r q : ℕ) → closes h.falls p (suc r) ≡ true → known_missing h p (suc r) q ≡ true
      → found_missing h.falls h.n r q ≡ true
  unfolding known_missing
  known_found p r q c e = by (any_has (λ x. hears h.falls p (suc r) x && missing_after h x r q) h.n e)
    where
      by : (x : ℕ) × (x < h.n) × ((hears h.falls p (suc r) x && missing_after h x r q) ≡ true) → found_missing h.falls h.n r q ≡ true
      by (x, l, t) = missed_missing x r q l (heard_closed h.falls p r x c (grind arith)) (grind arith)

  -- no box more is found missing in round r + 1: a clean round
  abbrev pub Clean : ℕ → Type 0
  Clean r = IsWithin (found_missing h.falls h.n (suc r)) (found_missing h.falls h.n r) h.n

  module _ (r : ℕ) (clean : Clean r) where
    -- in it a box hears just those not found missing in the round before
    pub clean_hears : (p x : ℕ) → p < h.n → x < h.n → closes h.falls p (suc r) ≡ true
        → hears h.falls p (suc r) x ≡ not (found_missing h.falls h.n r x)
    clean_hears p x l m c =
        let heard = heard_closed h.falls p r x c in
        let open' = missing_open h.falls h.n r x in
        let lost = not_heard_missing h.falls h.n p (suc r) x l c in
        let same = clean x m in
        grind arith

  -- whom a box that is heard missed is known missing
  missed_known : (p r x q : ℕ) → x < h.n → hears h.falls p (suc r) x ≡ true → missing_after h x r q ≡ true
      → known_missing h p (suc r) q ≡ true
  unfolding known_missing
  missed_known p r x q m a b = any_from (λ x. hears h.falls p (suc r) x && missing_after h x r q) h.n x m (grind arith)

  not_heard_missed : (x r q : ℕ) → closes h.falls x (suc r) ≡ true
      → (fell_before (h.falls q) (suc r) || fell_unheard (h.falls q) (suc r) x) ≡ true
      → missing_after h x (suc r) q ≡ true
  unfolding missing_after
  not_heard_missed x r q c e = ap not (fell_not_heard h.falls x (suc r) q c e)

  -- after a clean round a box knows all missing who were found so before it: it misses who fell earlier, and hears whoever missed the
  -- others
  pub clean_known : (p r q : ℕ) → fell_before (h.falls q) 1 ≡ false → p < h.n → closes h.falls p (suc r) ≡ true → Clean r
      → found_missing h.falls h.n r q ≡ true → known_missing h p (suc r) q ≡ true
  unfolding found_missing
  clean_known p zero q dated l c k e = absurd (both_ways (found_missing h.falls h.n 0 q) (none_missing h.falls h.n q dated) e)
  clean_known p (suc s) q dated l c k e = by (cases_Bool (fell_before (h.falls q) (suc s))) (any_has (λ x. fell_unheard (h.falls q) (suc s) x && closes h.falls x (suc s)) h.n)
    where
      told : (x : ℕ) → x < h.n → closes h.falls x (suc s) ≡ true
          → (fell_before (h.falls q) (suc s) || fell_unheard (h.falls q) (suc s) x) ≡ true
          → known_missing h p (suc (suc s)) q ≡ true
      told x m d t =
          let o = missing_open h.falls h.n (suc s) x in
          let a = clean_hears (suc s) k p x l m c in
          missed_known p (suc s) x q m (grind arith) (not_heard_missed x s q d t)

      some : (x : ℕ) × (x < h.n) × ((fell_unheard (h.falls q) (suc s) x && closes h.falls x (suc s)) ≡ true)
          → known_missing h p (suc (suc s)) q ≡ true
      some (x, m, t) = told x m (grind arith) (grind arith)

      by : (fell_before (h.falls q) (suc s) ≡ true) ⊎ (fell_before (h.falls q) (suc s) ≡ false)
          → (any (λ x. fell_unheard (h.falls q) (suc s) x && closes h.falls x (suc s)) h.n ≡ true
          → (x : ℕ) × (x < h.n) × ((fell_unheard (h.falls q) (suc s) x && closes h.falls x (suc s)) ≡ true))
          → known_missing h p (suc (suc s)) q ≡ true
      by (inl b) has = told p l (closed_before h.falls p (suc s) c) (grind arith)
      by (inr b) has = some (has (grind arith))
