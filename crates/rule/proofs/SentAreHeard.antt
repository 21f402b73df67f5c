-- What the boxes that are heard compose are the frames that the rule wants heard.
use Rattle.std.proofs.Common.{◌≡◌, ℕ, zero, suc, ◌<◌, Bool, true, false, cond, not, ◌&&◌, eqb, ltb, ◌⊎◌, [], ◌∷◌, ◌++◌, map, All, Contains, Ok, sym, refl, ap, subst, inl, inr, not-suc-le-zero, arith}
use Rattle.std.proofs.lemmas.Bool.{cases_eq}
use Rattle.std.proofs.lemmas.Bool.Decides.{nat_tests}
use Rattle.std.proofs.lemmas.List.Elements.{All-nil, All-cons, All-append, All-contains, Contains-append_left, Contains-push}
use Rattle.sets.proofs.BitLemmas.{mask_of-below}
use Rattle.proposals.specs.Kinds.{Kind}
use Rattle.frames.specs.declared.frame.Frame.{Frame}
use Rattle.frames.specs.Frames.{frame_bytes}
use Rattle.frames.specs.FrameLaws.{HeadFits}
use Rattle.boxes.specs.declared.states.Resting.{Resting}
use Rattle.boxes.specs.BoxRounds.{open_notes, on_close}
use Rattle.boxes.specs.ByFrames.{notes_after}
use Rattle.boxes.specs.BoxLaws.{SentAreRead, ClosesByFrames}
use Rattle.rule.specs.Falls.{closes}
use Rattle.rule.specs.Histories.{History, IsAllowed}
use Rattle.rule.specs.RuleValues.{missing_after}
use Rattle.rule.specs.HeldValues.{held_after, frame_after, hears_of_company, frames_heard, outcome_of, AreHeard}
use Rattle.rule.proofs.ToldInAnyOrder.{told_follows}

module _ {K : Type 0} (h : History K) (kind : Kind K) (p r : ℕ) where
  -- what holds of all that they send holds of each
  all_heard : (P : Frame K → Type 0) → ((q : ℕ) → hears_of_company h p (suc r) q ≡ true → P (frame_after h kind q r)) → (m : ℕ)
      → All P (frames_heard h kind p r m)
  unfolding frames_heard
  all_heard P each zero = All-nil P
  all_heard P each (suc m) = All-append P (frames_heard h kind p r m) _ (all_heard P each m) (one (hears_of_company h p (suc r) m) (not (eqb m p)) (each m))
    where
      one : (s t : Bool) → (s ≡ true → P (frame_after h kind m r)) → All P (cond (s && t) (frame_after h kind m r ∷ []) [])
      one true true f = All-cons P (frame_after h kind m r) [] (f refl) (All-nil P)
      one true false f = All-nil P
      one false t f = All-nil P

  -- and each is among them
  among_heard : (m q : ℕ) → q < m → hears_of_company h p (suc r) q ≡ true → (q ≡ p → ⊥)
      → Contains (frames_heard h kind p r m) (frame_after h kind q r)
  unfolding frames_heard
  among_heard zero q l e other = absurd (not-suc-le-zero l)
  among_heard (suc m) q l e other = by (cases_eq q m) (among_heard m q)
    where
      last : (t : Bool) → t ≡ true → q ≡ m
          → Contains (frames_heard h kind p r m ++ cond t (frame_after h kind m r ∷ []) []) (frame_after h kind q r)
      last true is same = subst (λ x. Contains (frames_heard h kind p r m ++ (frame_after h kind m r ∷ [])) (frame_after h kind x r)) (sym same) (Contains-push (frames_heard h kind p r m) (frame_after h kind m r))
      last false is same = absurd (grind arith)

      by : (q ≡ m) ⊎ (q ≡ m → ⊥)
          → (q < m → hears_of_company h p (suc r) q ≡ true → (q ≡ p → ⊥) → Contains (frames_heard h kind p r m) (frame_after h kind q r))
          → Contains (frames_heard h kind p r (suc m)) (frame_after h kind q r)
      by (inl same) ih = last (hears_of_company h p (suc r) m && not (eqb m p)) (let a = ap (hears_of_company h p (suc r)) same in grind (arith, nat_tests)) same
      by (inr off) ih = Contains-append_left (frames_heard h kind p r m) _ _ (ih (omega arith) e other)

  are_heard : AreHeard h kind p r (frames_heard h kind p r h.n)
  are_heard = (
    λ q e. by q e (cases_eq q p),
    λ f has. All-contains (λ f. (q : ℕ) × (hears_of_company h p (suc r) q ≡ true) × (f ≡ frame_after h kind q r)) (frames_heard h kind p r h.n) f (all_heard (λ f. (q : ℕ) × (hears_of_company h p (suc r) q ≡ true) × (f ≡ frame_after h kind q r)) (λ q e. (q, e, refl)) h.n) has,
  )
    where
      by : (q : ℕ) → hears_of_company h p (suc r) q ≡ true → (q ≡ p) ⊎ (q ≡ p → ⊥)
          → (q ≡ p) ⊎ Contains (frames_heard h kind p r h.n) (frame_after h kind q r)
      by q e (inl same) = inl same
      by q e (inr other) = inr (among_heard h.n q (grind (arith, nat_tests)) e other)

  -- their numbers are numbers that there are, as those of a box at rest
  sent_fits : IsAllowed h → (b : Resting K) → b.held ≡ held_after h kind p r → (q : ℕ) → q < h.n → HeadFits (frame_after h kind q r)
  unfolding held_after
  sent_fits allowed b is q l =
      let limits = allowed.size in
      let closed : b.held.closed ≡ r = ap (λ x. x.closed) is in
      (omega (arith, b.ahead, b.due, b.survived, b.few), grind (arith, nat_tests), mask_of-below (λ i. ltb i h.n && missing_after h q r i) 32)

  pub sent_follows : SentAreRead kind → ClosesByFrames kind
      → IsAllowed h → p < h.n → closes h.falls p (suc r) ≡ true → (b : Resting K) → b.held ≡ held_after h kind p r
      → on_close b.held (notes_after kind b.held (open_notes b.held) (map (frame_bytes kind) (frames_heard h kind p r h.n)))
      ≡ Ok (outcome_of h kind p (suc r))
  sent_follows sent by_rule allowed l c b is =
      told_follows h kind allowed p r l c by_rule b is (map (frame_bytes kind) (frames_heard h kind p r h.n))
      (subst (AreHeard h kind p r) (sym (sent (frames_heard h kind p r h.n) (all_heard HeadFits (λ q e. sent_fits allowed b is q (grind (arith, nat_tests))) h.n))) are_heard)
