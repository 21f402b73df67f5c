-- A box that is told the frames of those it hears, in any order, has heard what the rule says.
use Rattle.std.specs.List.{find}
use Rattle.std.proofs.Common.{◌≡◌, ℕ, suc, ◌<◌, Bool, true, false, cond, eqb, ◌⊎◌, List, Contains, Some, None, Ok, sym, refl, ap, ◌∙◌, inl, inr, ⊎_elim, arith}
use Rattle.std.proofs.lemmas.Bool.{both_ways, cases_Bool, eqb-true}
use Rattle.std.proofs.lemmas.Bool.Decides.{nat_tests}
use Rattle.base.specs.Results.{map_fault}
use Rattle.proposals.specs.Kinds.{Kind}
use Rattle.frames.specs.declared.frame.Frame.{Frame}
use Rattle.boxes.specs.declared.states.Resting.{Resting}
use Rattle.boxes.specs.BoxRounds.{box_refusal, open_notes, on_close}
use Rattle.boxes.specs.ByFrames.{is_from, heard_frames, frames_in, notes_after, close_by_frames}
use Rattle.boxes.specs.BoxLaws.{ClosesByFrames}
use Rattle.boxes.proofs.FirstFound.{find_only, find_none}
use Rattle.rule.specs.Falls.{closes, hears}
use Rattle.rule.specs.Histories.{History, IsAllowed}
use Rattle.rule.specs.HeldValues.{held_after, frame_after, heard_after, outcome_of, hears_of_company, AreHeard}
use Rattle.rule.proofs.RoundLemmas.{hears_itself}
use Rattle.rule.proofs.BoxFollowsRule.{is_admitted, follows}

module _ {K : Type 0} (h : History K) (kind : Kind K) (allowed : IsAllowed h) (p r : ℕ) (l : p < h.n)
    (c : closes h.falls p (suc r) ≡ true) where
  sender_is : (q : ℕ) → (frame_after h kind q r).sender.0 ≡ q
  unfolding held_after
  sender_is q = refl

  number_is : (held_after h kind p r).number.0 ≡ p
  unfolding held_after
  number_is = refl

  module _ (came : List (Frame K)) (are : AreHeard h kind p r came) where
    -- a frame that came from q is what q sends, and p hears q
    came_from : (q : ℕ) (f : Frame K) → Contains came f → is_from (held_after h kind p r) q f ≡ true
        → (f ≡ frame_after h kind q r) × (hears_of_company h p (suc r) q ≡ true)
    came_from q f has is = by (are.1 f has)
      where
        by : (x : ℕ) × (hears_of_company h p (suc r) x ≡ true) × (f ≡ frame_after h kind x r)
            → (f ≡ frame_after h kind q r) × (hears_of_company h p (suc r) q ≡ true)
        by (x, e, at) =
            let s : f.sender.0 ≡ x = ap (λ g. g.sender.0) at ∙ sender_is x in
            let same : x ≡ q = grind (arith, nat_tests) in
            (at ∙ ap (λ y. frame_after h kind y r) same, ap (hears_of_company h p (suc r)) (sym same) ∙ e)

    -- of a box not heard nothing came
    of_none : (q : ℕ) → hears_of_company h p (suc r) q ≡ false → find (is_from (held_after h kind p r) q) came ≡ None
    of_none q off = find_none (is_from (held_after h kind p r) q) came (λ f has. by f has (cases_Bool (is_from (held_after h kind p r) q f)))
      where
        by : (f : Frame K) → Contains came f → (is_from (held_after h kind p r) q f ≡ true) ⊎ (is_from (held_after h kind p r) q f ≡ false)
            → is_from (held_after h kind p r) q f ≡ false
        by f has (inl is) = absurd (both_ways (hears_of_company h p (suc r) q) off (came_from q f has is).1)
        by f has (inr is) = is

    of_heard : (q : ℕ) → hears_of_company h p (suc r) q ≡ true → (q ≡ p → ⊥)
        → find (is_from (held_after h kind p r) q) came ≡ Some (frame_after h kind q r)
    of_heard q on other =
        let m : q < h.n = grind (arith, nat_tests) in
        let e : hears h.falls p (suc r) q ≡ true = grind arith in
        find_only (is_from (held_after h kind p r) q) came (frame_after h kind q r)
        (⊎_elim (λ same. absurd (other same)) (λ has. has) (are.0 q on))
        (let a = is_admitted h kind allowed p q r l m c e other in let s = sender_is q in grind (arith, nat_tests))
        (λ f has is. (came_from q f has is).0)

    heard_at : (q : ℕ) → heard_frames (held_after h kind p r) came q ≡ heard_after h kind p r q
    unfolding heard_frames heard_after
    heard_at q = by (cases_Bool (eqb q (held_after h kind p r).number.0))
      where
        found : (s : Bool) → eqb q (held_after h kind p r).number.0 ≡ false → hears_of_company h p (suc r) q ≡ s
            → find (is_from (held_after h kind p r) q) came ≡ cond s (Some (frame_after h kind q r)) None
        found true e on = of_heard q on (λ same. let n = number_is in grind (arith, nat_tests))
        found false e off = of_none q off

        by : (eqb q (held_after h kind p r).number.0 ≡ true) ⊎ (eqb q (held_after h kind p r).number.0 ≡ false)
            → cond (eqb q (held_after h kind p r).number.0) (Some (frame_after h kind p r)) (find (is_from (held_after h kind p r) q) came)
            ≡ cond (hears_of_company h p (suc r) q) (Some (frame_after h kind q r)) None
        by (inl e) =
            let same : q ≡ p = eqb-true q _ e ∙ number_is in
            let heard : true ≡ hears_of_company h p (suc r) q = sym (ap (hears_of_company h p (suc r)) same ∙ (let i = hears_itself h.falls p (suc r) in grind (arith, nat_tests))) in
            ap (λ s. cond s (Some (frame_after h kind p r)) (find (is_from (held_after h kind p r) q) came)) e ∙ (λ j. cond (heard j) (Some (frame_after h kind (sym same j) r)) None)
        by (inr e) = ap (λ s. cond s (Some (frame_after h kind p r)) (find (is_from (held_after h kind p r) q) came)) e ∙ found (hears_of_company h p (suc r) q) e refl

    heard_is : heard_frames (held_after h kind p r) came ≡ heard_after h kind p r
    heard_is = λ j q. heard_at q j

  pub told_follows : ClosesByFrames kind → (b : Resting K) → b.held ≡ held_after h kind p r
      → (told : List (List ℕ)) → AreHeard h kind p r (frames_in kind told)
      → on_close b.held (notes_after kind b.held (open_notes b.held) told) ≡ Ok (outcome_of h kind p (suc r))
  told_follows by_rule b is told are =
      by_rule b told
      ∙ ap (λ x. map_fault (box_refusal x) (close_by_frames kind x (heard_frames x (frames_in kind told)))) is
      ∙ ap (λ x. map_fault (box_refusal (held_after h kind p r)) (close_by_frames kind (held_after h kind p r) x)) (heard_is (frames_in kind told) are)
      ∙ ap (map_fault (box_refusal (held_after h kind p r))) (follows h kind allowed p r l c)
