-- The foremost of some values, by the laws of an order.
use Rattle.std.proofs.Common.{◌≡◌, ℕ, zero, suc, ◌<◌, Bool, true, false, cond, not, ◌⊎◌, Some, None, Option, sym, refl, ap, ◌∙◌, ⊎_elim, not-suc-le-zero, below_more, arith, MatchOption}
use Rattle.std.proofs.lemmas.Option.{MatchOption-at_some}
use Rattle.std.proofs.lemmas.Bool.{and_parts, both_ways}
use Rattle.proposals.specs.Kinds.{IsOrder}
use Rattle.proposals.specs.Orders.{goes_before, preferred, foremost, IsAmong, LeadsAll, ForemostLeads, ForemostIsOnly}

-- the foremost of values that are the same where they pass
pub foremost_ext : {V : Type 0} (leads : V → V → Bool) (P Q : ℕ → Bool) (v w : ℕ → V) (n : ℕ)
    → ((k : ℕ) → k < n → P k ≡ Q k) → ((k : ℕ) → k < n → P k ≡ true → v k ≡ w k) → foremost leads P v n ≡ foremost leads Q w n
unfolding foremost
foremost_ext leads P Q v w zero e f = refl
foremost_ext leads P Q v w (suc n) e f =
    let ih = foremost_ext leads P Q v w n (λ k l. e k (omega arith)) (λ k l. f k (omega arith)) in
    by (P n) (Q n) (e n (omega arith)) (f n (omega arith)) ih
  where
    by : (s t : Bool) → s ≡ t → (s ≡ true → v n ≡ w n) → foremost leads P v n ≡ foremost leads Q w n
        → cond s (Some (preferred leads (foremost leads P v n) (v n))) (foremost leads P v n) ≡ cond t (Some (preferred leads (foremost leads Q w n) (w n))) (foremost leads Q w n)
    by true true i g ih = let x = g refl in λ j. Some (preferred leads (ih j) (x j))
    by true false i g ih = absurd (grind arith)
    by false true i g ih = absurd (grind arith)
    by false false i g ih = ih

module _ {V : Type 0} (leads : V → V → Bool) (order : IsOrder leads) where
  itself : (x : V) → leads x x ≡ true
  itself x = ⊎_elim (λ e. e) (λ e. e) (order.total x x)

  ahead : (x y : V) → goes_before leads x y ≡ true → leads x y ≡ true
  ahead x y e = (and_parts (leads x y) (not (leads y x)) e).0

  behind : (x y : V) → goes_before leads x y ≡ false → leads y x ≡ true
  behind x y e = ⊎_elim (λ f. grind arith) (λ g. g) (order.total x y)

  -- what the foremost value of those below n is to be
  abbrev First : (ℕ → Bool) → (ℕ → V) → ℕ → Option V → Type 0
  First P v n o = MatchOption o ((k : ℕ) → k < n → P k ≡ false) (λ x. IsAmong leads P v n x × LeadsAll leads P v n x)

  module _ (P : ℕ → Bool) (v : ℕ → V) (n : ℕ) where
    -- what holds of each number below n, and of n
    below : (Q : ℕ → Type 0) → ((k : ℕ) → k < n → Q k) → Q n → (k : ℕ) → k < suc n → Q k
    below Q less here k l = below_more Q n less here k (omega arith)

    abbrev Led : V → ℕ → Type 0
    Led x k = P k ≡ true → leads x (v k) ≡ true

    skipped : P n ≡ false → (o : Option V) → First P v n o → First P v (suc n) o
    skipped off None none = below (λ k. P k ≡ false) none off
    skipped off (Some x) ((k, l, p, is), all) = ((k, omega arith, p, is), below (Led x) all (λ q. absurd (both_ways (P n) off q)))

    taken : P n ≡ true → (o : Option V) → First P v n o → First P v (suc n) (Some (preferred leads o (v n)))
    taken on None none = ((n, omega arith, on, refl), below (Led (v n)) (λ k l p. absurd (both_ways (P k) (none k l) p)) (λ _. itself (v n)))
    taken on (Some x) ((k, l, p, is), all) = by (goes_before leads (v n) x) refl
      where
        -- v n goes before x, or x stays
        by : (b : Bool) → goes_before leads (v n) x ≡ b → First P v (suc n) (Some (preferred leads (Some x) (v n)))
        by true e = rw e ((n, omega arith, on, refl), below (Led (v n)) (λ j m q. order.transitive (v n) x (v j) (ahead (v n) x e) (all j m q)) (λ _. itself (v n)))
        by false e = rw e ((k, omega arith, p, is), below (Led x) all (λ _. behind (v n) x e))

  pub foremost_leads : ForemostLeads leads
  unfolding foremost
  foremost_leads P v zero = λ k l. absurd (not-suc-le-zero l)
  foremost_leads P v (suc n) = by (P n) refl (foremost_leads P v n)
    where
      by : (b : Bool) → P n ≡ b → First P v n (foremost leads P v n) → First P v (suc n) (foremost leads P v (suc n))
      by true e ih = rw e (taken P v n e (foremost leads P v n) ih)
      by false e ih = rw e (skipped P v n e (foremost leads P v n) ih)

  pub foremost_only : ForemostIsOnly leads
  foremost_only P v n x (k, l, p, is) all = by (foremost leads P v n) (foremost_leads P v n)
    where
      by : (o : Option V) → First P v n o → o ≡ Some x
      by None none = absurd (both_ways (P k) (none k l) p)
      by (Some y) ((j, m, q, at), each) = ap Some (order.antisymmetric y x (ap (λ z. leads y z) is ∙ each k l p) (ap (λ z. leads x z) at ∙ all j m q))

  -- one value more, at q, goes first or leaves the first as it was
  module _ (P P' : ℕ → Bool) (v v' : ℕ → V) (n q : ℕ) (l : q < n)
      (here : P' q ≡ true) (stay : (k : ℕ) → P k ≡ true → (P' k ≡ true) × (v' k ≡ v k)) (others : (k : ℕ) → P' k ≡ true → (P k ≡ true) ⊎ (k ≡ q)) where
    -- what may go first of each value that was there, and of the one more
    led : (x : V) → LeadsAll leads P v n x → leads x (v' q) ≡ true → LeadsAll leads P' v' n x
    led x all new j b p = ⊎_elim (λ o. ap (leads x) (stay j o).1 ∙ all j b o) (λ s. ap (λ i. leads x (v' i)) s ∙ new) (others j p)

    pub foremost_more : (x : V) → foremost leads P v n ≡ Some x → foremost leads P' v' n ≡ Some (preferred leads (Some x) (v' q))
    foremost_more x e = by (MatchOption-at_some _ _ x e (foremost_leads P v n)) (goes_before leads (v' q) x) refl
      where
        by : IsAmong leads P v n x × LeadsAll leads P v n x → (t : Bool) → goes_before leads (v' q) x ≡ t → foremost leads P' v' n ≡ Some (preferred leads (Some x) (v' q))
        by (_, all) true t =
            let further = λ (j : ℕ) (b : j < n) (o : P j ≡ true). order.transitive (v' q) x (v j) (ahead (v' q) x t) (all j b o) in
            rw t (foremost_only P' v' n (v' q) (q, l, here, refl) (led (v' q) further (itself (v' q))))
        by ((k, m, p, is), all) false t =
            rw t (foremost_only P' v' n x (k, m, (stay k p).0, is ∙ sym (stay k p).1) (led x all (behind (v' q) x t)))
