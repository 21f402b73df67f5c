-- The estimates: whose they are, and when they are the same.
use Rattle.std.proofs.Common.{◌≡◌, ℕ, zero, suc, ◌<◌, ◌≤◌, true, false, Some, None, Option, MatchOption, unwrap_or, sym, refl, ap, ◌∙◌, ⊎_elim}
use Rattle.std.proofs.Math.Decide.{le_ind}
use Rattle.std.proofs.lemmas.Bool.{both_ways}
use Rattle.proposals.specs.Orders.{foremost, IsAmong, LeadsAll}
use Rattle.proposals.specs.Kinds.{Kind, IsOrder}
use Rattle.proposals.proofs.ForemostLemmas.{foremost_leads}
use Rattle.rule.specs.Falls.{closes, hears}
use Rattle.rule.specs.Histories.{History}
use Rattle.rule.specs.RuleValues.{estimate}
use Rattle.rule.proofs.RoundLemmas.{closed_before, heard_closed, hears_itself}
use Rattle.rule.proofs.CleanRound.{Clean, clean_hears}

module _ {K : Type 0} (h : History K) (kind : Kind K) (order : IsOrder kind.leads) where
  -- the estimate is of one that was heard, and may go first of all of these
  abbrev Heads : ℕ → ℕ → K → Type 0
  Heads p r x =
      IsAmong kind.leads (hears h.falls p (suc r)) (λ q. estimate h kind q r) h.n x
      × LeadsAll kind.leads (hears h.falls p (suc r)) (λ q. estimate h kind q r) h.n x

  heads : (p r : ℕ) → p < h.n → Heads p r (estimate h kind p (suc r))
  unfolding estimate
  heads p r l = by (foremost kind.leads (hears h.falls p (suc r)) (λ q. estimate h kind q r) h.n) (foremost_leads kind.leads order _ _ h.n)
    where
      by : (o : Option K) → MatchOption o ((k : ℕ) → k < h.n → hears h.falls p (suc r) k ≡ false) (Heads p r)
          → Heads p r (unwrap_or o (estimate h kind p r))
      by None none = absurd (both_ways _ (none p l) (hears_itself h.falls p (suc r)))
      by (Some x) is = is

  -- it is some box's proposal
  pub estimate_proposed : (r p : ℕ) → p < h.n → (q : ℕ) × (q < h.n) × (estimate h kind p r ≡ h.proposals q)
  unfolding estimate
  estimate_proposed zero p l = (p, l, refl)
  estimate_proposed (suc r) p l = by (heads p r l).0 (estimate_proposed r)
    where
      by : IsAmong kind.leads (hears h.falls p (suc r)) (λ q. estimate h kind q r) h.n (estimate h kind p (suc r))
          → ((x : ℕ) → x < h.n → (q : ℕ) × (q < h.n) × (estimate h kind x r ≡ h.proposals q))
          → (q : ℕ) × (q < h.n) × (estimate h kind p (suc r) ≡ h.proposals q)
      by (x, m, _, is) ih = let i = ih x m in (i.0, i.1, is ∙ i.2)

  -- it may go first of the box's own proposal
  pub estimate_leads : (p r : ℕ) → p < h.n → kind.leads (estimate h kind p r) (h.proposals p) ≡ true
  unfolding estimate
  estimate_leads p zero l = ⊎_elim (λ e. e) (λ e. e) (order.total (h.proposals p) (h.proposals p))
  estimate_leads p (suc r) l = order.transitive _ (estimate h kind p r) _ ((heads p r l).1 p l (hears_itself h.falls p (suc r))) (estimate_leads p r l)

  -- all that closed round r have the same estimate
  abbrev pub Agree : ℕ → Type 0
  Agree r = (p q : ℕ) → p < h.n → q < h.n → closes h.falls p r ≡ true → closes h.falls q r ≡ true
      → estimate h kind p r ≡ estimate h kind q r

  -- which then stays
  stays : (p r : ℕ) → Agree r → p < h.n → closes h.falls p (suc r) ≡ true → estimate h kind p (suc r) ≡ estimate h kind p r
  stays p r a l c = by (heads p r l).0
    where
      by : IsAmong kind.leads (hears h.falls p (suc r)) (λ q. estimate h kind q r) h.n (estimate h kind p (suc r))
          → estimate h kind p (suc r) ≡ estimate h kind p r
      by (x, m, t, is) = is ∙ a x p m l (heard_closed h.falls p r x c t) (closed_before h.falls p r c)

  agree_next : (r : ℕ) → Agree r → Agree (suc r)
  agree_next r a p q l m c d = stays p r a l c ∙ a p q l m (closed_before h.falls p r c) (closed_before h.falls q r d) ∙ sym (stays q r a m d)

  pub agree_from : (a b : ℕ) → Agree a → a ≤ b → Agree b
  agree_from a b g l = le_ind Agree g (λ m k e. agree_next m e) b l

  -- after a clean round all have heard the same boxes
  leads_other : (r p q : ℕ) → Clean h r → p < h.n → q < h.n → closes h.falls p (suc r) ≡ true → closes h.falls q (suc r) ≡ true
      → kind.leads (estimate h kind p (suc r)) (estimate h kind q (suc r)) ≡ true
  leads_other r p q k l m c d = by (heads q r m).0
    where
      by : IsAmong kind.leads (hears h.falls q (suc r)) (λ x. estimate h kind x r) h.n (estimate h kind q (suc r))
          → kind.leads (estimate h kind p (suc r)) (estimate h kind q (suc r)) ≡ true
      by (x, b, t, is) =
          let same : hears h.falls p (suc r) x ≡ hears h.falls q (suc r) x = clean_hears h r k p x l b c ∙ sym (clean_hears h r k q x m b d) in
          ap (kind.leads (estimate h kind p (suc r))) is ∙ (heads p r l).1 x b (same ∙ t)

  pub agree_clean : (r : ℕ) → Clean h r → Agree (suc r)
  agree_clean r k p q l m c d = order.antisymmetric _ _ (leads_other r p q k l m c d) (leads_other r q p k m l d c)
