-- A box that hears what the rule sends holds what the rule says.
use Rattle.std.proofs.Common.{◌≡◌, ℕ, zero, suc, ◌+◌, ◌-◌, ◌<◌, ◌≤◌, min, Bool, true, false, cond, not, ◌&&◌, ◌||◌, eqb, leb, ltb, [], ◌∷◌, is_some, Some, None, Ok, unwrap_or, sym, refl, ap, ◌∙◌, add-one, arith}
use Rattle.std.proofs.lemmas.Bool.Decides.{nat_tests}
use Rattle.base.specs.declared.refusal.Refusal.TheVariants as refusal
use Rattle.base.specs.Refusals.{unless}
use Rattle.base.specs.Counts.{any, count}
use Rattle.base.proofs.CountLemmas.{any_ext, any-and, none_any, count_le}
use Rattle.sets.specs.declared.set.BoxSet.{BoxSet}
use Rattle.sets.specs.Masks.{member, set_of}
use Rattle.sets.proofs.BitLemmas.{mask_below, set_ext}
use Rattle.sets.proofs.MemberLemmas.{company_member, company_count}
use Rattle.proposals.specs.Kinds.{Kind}
use Rattle.proposals.proofs.ForemostLemmas.{foremost_ext}
use Rattle.frames.specs.declared.frame.Frame.{Frame}
use Rattle.boxes.specs.declared.states.Resting.{Resting}
use Rattle.boxes.specs.Boxes.{new_box}
use Rattle.boxes.specs.BoxRounds as box
use Rattle.boxes.specs.BoxRounds.{bad_set, close_with, Outcome, rests, rings}
use Rattle.boxes.specs.ByFrames.{admits, estimate_in, first_estimate, boxes_not_heard, boxes_told_missing, close_by_frames}
use Rattle.boxes.proofs.NotesShowFrames.{is_some-when, tells-when}
use Rattle.rule.specs.Falls.{closes, hears, found_missing}
use Rattle.rule.specs.Histories.{History, IsAllowed}
use Rattle.rule.specs.RuleValues.{missing_after, known_missing, estimate}
use Rattle.rule.specs.RuleValues as rule
use Rattle.rule.specs.HeldValues.{held_after, frame_after, heard_after, hears_of_company, outcome_of}
use Rattle.rule.proofs.RoundLemmas.{closed_before, closing_heard, heard_closed, missing_open}
use Rattle.rule.proofs.CleanRound.{missed_missing, known_found}
use Rattle.rule.proofs.WasteLemmas.{best_down, best_late, lacking_few}

module _ {K : Type 0} (h : History K) (kind : Kind K) (allowed : IsAllowed h) where
  few : h.n ≤ 32
  few = let s = allowed.size in grind (arith, nat_tests)

  -- the missing set of p after round r
  abbrev missing_set : ℕ → ℕ → BoxSet
  missing_set p r = set_of (λ q. ltb q h.n && missing_after h p r q)

  missing_is : (p r i : ℕ) → member (missing_set p r) i ≡ (ltb i h.n && missing_after h p r i)
  missing_is p r = company_member h.n (missing_after h p r) few

  -- no more than may fall
  missed_few : (p r : ℕ) → p < h.n → closes h.falls p r ≡ true → count (member (missing_set p r)) 32 ≤ h.t
  missed_few p r l c =
      let a = company_count h.n (missing_after h p r) few in
      let d = count_le (missing_after h p r) (found_missing h.falls h.n r) h.n (λ q _. missed_missing h p r q l c) in
      omega (arith, lacking_few h allowed r)

  -- ---- a new box

  pub begins : (p : ℕ) → p < h.n → new_box (record { 0 = p }) h.n h.t (h.proposals p) ≡ Ok (held_after h kind p 0)
  unfolding held_after missing_after rule.best_horizon rule.smallest estimate
  begins p l =
      let of : leb h.n p ≡ false = grind (arith, nat_tests) in
      let none : set_of (λ _. false) ≡ set_of (λ q. ltb q h.n && false) = set_ext (λ _. false) (λ q. ltb q h.n && false) (λ i _. grind arith) in
      (λ j. unless
      ((not (allowed.size j), refusal.Company) ∷ (of j, refusal.Stranger) ∷ [])
      (record { number = record { 0 = p }; n = h.n; t = h.t; closed = 0; estimate = h.proposals p; missing = none j; horizon = record { 0 = h.t + 1 } }))

  -- ---- hearing

  -- who closed a round is missed by none that did
  not_missed : (p q r : ℕ) → closes h.falls q r ≡ true → missing_after h p r q ≡ false
  unfolding missing_after
  not_missed p q zero c = refl
  not_missed p q (suc r) c = ap not (closing_heard h.falls p (suc r) q c)

  -- ---- a box at rest

  pub rests_there : (p r : ℕ) → p < h.n → closes h.falls p r ≡ true → ((k : ℕ) → k ≤ r → rule.rings h p k ≡ false)
      → (b : Resting K) × (b.held ≡ held_after h kind p r)
  unfolding held_after rule.best_horizon rule.smallest
  rests_there p r l c quiet =
      let limits = allowed.size in
      let late = best_late h allowed p r c (λ k m. quiet k (omega arith)) in
      let silent = quiet r (omega arith) in
      let down = best_down h p 0 r (omega arith) in
      let own = missing_is p r p in
      let heard = not_missed p p r c in (
        record {
          held = held_after h kind p r;
          several = grind (arith, nat_tests);
          few = few;
          fallible = grind (arith, nat_tests);
          survived = grind (arith, nat_tests);
          placed = l;
          within = (mask_below h.n (missing_set p r).mask).1 (λ i m. let e = missing_is p r i in grind (arith, nat_tests));
          present = grind arith;
          sparse = missed_few p r l c;
          ahead = grind (arith, nat_tests);
          due = omega arith;
        },
        refl,
      )

  module _ (p q r : ℕ) (l : p < h.n) (m : q < h.n) (c : closes h.falls p (suc r) ≡ true) (heard : hears h.falls p (suc r) q ≡ true) where
    good_set : bad_set (held_after h kind p r) (frame_after h kind q r) ≡ false
    unfolding bad_set held_after
    good_set =
        let beyond = none_any (λ i. member (missing_set q r) i && leb h.n i) 32 (λ i _. let n = missing_is q r i in grind (arith, nat_tests)) in
        let own = missing_is q r q in
        let his = missing_is q r p in
        let a = not_missed q q r (heard_closed h.falls p r q c heard) in
        let b = not_missed q p r (closed_before h.falls p r c) in
        grind arith

    pub is_admitted : (q ≡ p → ⊥) → admits (held_after h kind p r) (frame_after h kind q r) ≡ true
    unfolding admits held_after
    is_admitted other =
        let good : bad_set (held_after h kind p r) (frame_after h kind q r) ≡ false = good_set in
        let his = missing_is p r q in
        let a = not_missed p q r (heard_closed h.falls p r q c heard) in
        grind (arith, nat_tests)

  -- ---- closing

  module _ (p r : ℕ) where
    not_heard_is : boxes_not_heard (held_after h kind p r) (heard_after h kind p r) ≡ missing_set p (suc r)
    unfolding held_after heard_after missing_after
    not_heard_is = set_ext _ _ (λ i _. let s = is_some-when (hears_of_company h p (suc r) i) (frame_after h kind i r) in grind arith)

    -- the boxes that p knows missing by round r + 1, as a set
    abbrev known_set : BoxSet
    known_set = set_of (λ i. ltb i h.n && known_missing h p (suc r) i)

    known_is : (i : ℕ) → member known_set i ≡ (ltb i h.n && known_missing h p (suc r) i)
    known_is = company_member h.n (known_missing h p (suc r)) few

    told_is : boxes_told_missing (held_after h kind p r) (heard_after h kind p r) ≡ known_set
    unfolding held_after heard_after known_missing
    told_is = set_ext _ _ (λ i _.
        any_ext _ (λ q. ltb i h.n && (hears h.falls p (suc r) q && missing_after h q r i)) h.n (λ q l.
        let s = tells-when (hears_of_company h p (suc r) q) (frame_after h kind q r) i in
        let m = missing_is q r i in
        grind (arith, nat_tests))
        ∙ any-and (ltb i h.n) (λ q. hears h.falls p (suc r) q && missing_after h q r i) h.n)

    estimate_in-when : (t : Bool) (d : K) (f : Frame K) → t ≡ true → estimate_in d (cond t (Some f) None) ≡ f.estimate
    estimate_in-when true d f e = refl
    estimate_in-when false d f e = absurd (grind arith)

    first_is : unwrap_or (first_estimate (held_after h kind p r) (heard_after h kind p r) kind) (held_after h kind p r).estimate
        ≡ estimate h kind p (suc r)
    unfolding held_after heard_after estimate
    first_is = ap (λ o. unwrap_or o (estimate h kind p r)) (foremost_ext kind.leads
        (λ q. is_some (heard_after h kind p r q)) (hears h.falls p (suc r)) _ (λ q. estimate h kind q r) h.n
        (λ q l. let s = is_some-when (hears_of_company h p (suc r) q) (frame_after h kind q r) in grind (arith, nat_tests))
        (λ q _ e. estimate_in-when (hears_of_company h p (suc r) q) _ (frame_after h kind q r) (sym (is_some-when (hears_of_company h p (suc r) q) (frame_after h kind q r)) ∙ e)))

    module _ (l : p < h.n) (c : closes h.falls p (suc r) ≡ true) where
      -- who is known missing closed no round since, and is not heard
      known_missed : (q : ℕ) → known_missing h p (suc r) q ≡ true → missing_after h p (suc r) q ≡ true
      unfolding missing_after
      known_missed q k =
          let o = missing_open h.falls h.n r q (known_found h p r q c k) in
          let a = heard_closed h.falls p r q c in
          grind arith

      tally : (ltb h.t (count (member (missing_set p (suc r))) 32)
          || any (λ i. member known_set i && not (member (missing_set p (suc r)) i)) 32) ≡ false
      tally =
          let a = missed_few p (suc r) l c in
          let b = none_any (λ i. member known_set i && not (member (missing_set p (suc r)) i)) 32 (λ i _.
          let x = known_is i in let y = missing_is p (suc r) i in let z = known_missed i in grind arith) in
          grind (arith, nat_tests)

      best_is : box.best_horizon (held_after h kind p r) known_set ≡ rule.best_horizon h p (suc r)
      unfolding held_after rule.best_horizon rule.smallest
      best_is = λ j. min (rule.best_horizon h p r) (add-one r j + h.t - company_count h.n (known_missing h p (suc r)) few j)

      abbrev end : ℕ → ℕ → Outcome K
      end best round = cond (eqb best round) (rings (record { 0 = round }) (estimate h kind p (suc r)))
          (rests (record {
            number = record { 0 = p };
            n = h.n;
            t = h.t;
            closed = round;
            estimate = estimate h kind p (suc r);
            missing = missing_set p (suc r);
            horizon = record { 0 = best };
          }))

      closes_so : close_with (held_after h kind p r) (missing_set p (suc r)) known_set (estimate h kind p (suc r))
          ≡ Ok (outcome_of h kind p (suc r))
      unfolding close_with outcome_of held_after
      closes_so = λ j. unless ((tally j, refusal.Tally) ∷ []) (end (best_is j) (add-one r j))

      pub follows : close_by_frames kind (held_after h kind p r) (heard_after h kind p r) ≡ Ok (outcome_of h kind p (suc r))
      unfolding close_by_frames
      follows = (λ j. close_with (held_after h kind p r) (not_heard_is j) (told_is j) (first_is j)) ∙ closes_so
