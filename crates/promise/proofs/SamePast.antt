-- Histories that are the same up to some round have the same values up to it.
use Rattle.std.proofs.Common.{◌≡◌, ℕ, ◌≤◌, cond, eqb, sym, ap, ◌∙◌}
use Rattle.proposals.specs.Kinds.{Kind}
use Rattle.machine.specs.BoxRounds.{rests, rings}
use Rattle.rule.specs.Falls.{closes}
use Rattle.rule.specs.Histories.{History, as_of}
use Rattle.rule.specs.RuleValues as rule
use Rattle.rule.specs.HeldValues.{held_after, outcome_of}
use Rattle.rule.specs.RuleLaws.{OnlyPastCounts}

module _ {K : Type 0} (kind : Kind K) (only_past : (h : History K) → OnlyPastCounts h kind) (g h : History K) (s : ℕ)
    (same : as_of s g ≡ as_of s h) (p r : ℕ) (l : r ≤ s) where
  pub closes_same : closes g.falls p r ≡ closes h.falls p r
  closes_same = sym (only_past g s r p 0 l).0 ∙ ap (λ x. closes x.falls p r) same ∙ (only_past h s r p 0 l).0

  pub held_same : held_after g kind p r ≡ held_after h kind p r
  held_same = sym (only_past g s r p 0 l).3 ∙ ap (λ x. held_after x kind p r) same ∙ (only_past h s r p 0 l).3

  pub rings_same : rule.rings g p r ≡ rule.rings h p r
  unfolding held_after
  rings_same = ap (λ b. eqb b.horizon.0 r) held_same

  pub outcome_same : outcome_of g kind p r ≡ outcome_of h kind p r
  unfolding outcome_of held_after
  outcome_same = ap (λ b. cond (eqb b.horizon.0 r) (rings (record { 0 = r }) b.estimate) (rests b)) held_same
