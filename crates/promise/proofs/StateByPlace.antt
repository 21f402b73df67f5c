-- The ringing and its row by a history, place by place.
use Rattle.std.specs.List.{slice_get}
use Rattle.std.proofs.Common.{◌≡◌, ℕ, zero, suc, ◌<◌, ◌≤◌, Bool, true, false, not, ◌&&◌, cond, eqb, leb, ltb, ◌⊎◌, List, length, is_some, Some, None, Option, sym, refl, ap, ◌∙◌, inl, inr, arith}
use Rattle.std.proofs.lemmas.Bool.{cases_Bool}
use Rattle.std.proofs.lemmas.Bool.Decides.{nat_tests}
use Rattle.std.proofs.lemmas.List.FromFn.{length-map-range_with_len}
use Rattle.base.specs.Counts.{count}
use Rattle.base.proofs.CountLemmas.{none_any, count_ext}
use Rattle.base.proofs.NumberedLemmas.{get-range, numbered_none}
use Rattle.sets.specs.Companies.{is_company}
use Rattle.sets.specs.Masks.{member}
use Rattle.sets.proofs.MemberLemmas.{company_member}
use Rattle.proposals.specs.Kinds.{Kind}
use Rattle.machine.specs.BoxRounds.{Outcome, rests, rings}
use Rattle.machine.specs.WireState.{is_in}
use Rattle.rule.specs.declared.falls.Fall.{Fall}
use Rattle.rule.specs.Falls.{fell_before, fell_in, fell_unheard, lasts, closes}
use Rattle.rule.specs.Histories.{History}
use Rattle.rule.specs.RuleValues as rule
use Rattle.rule.specs.RuleValues.{missing_after}
use Rattle.rule.specs.HeldValues.{held_after, outcome_of}
use Rattle.rule.proofs.RoundLemmas.{closing_heard, fell_closes, fell_next}
use Rattle.machine.specs.Places.{PlaceState, at_rest, down, state_of_outcome}
use Rattle.machine.specs.State.{State, is_gone, gone_count}
use Rattle.machine.specs.RowCheck.{is_other, is_misplaced, bad_row}
use Rattle.promise.specs.StateByHistory.{lost_in, place_by_fall, place_by, row_by, wire_by, state_by}

-- ---- one box that falls

pub lost_some : (r : ℕ) (o : Option Fall) → is_some (lost_in r o) ≡ fell_in o r
lost_some r None = refl
lost_some r (Some f) = by (eqb f.round.0 r)
  where
    by : (t : Bool) → is_some (cond t (Some f.lost) None) ≡ t
    by true = refl
    by false = refl

pub lost_holds : (r p : ℕ) (o : Option Fall) → is_in p (lost_in r o) ≡ fell_unheard o r p
lost_holds r p None = refl
lost_holds r p (Some f) = by (eqb f.round.0 r)
  where
    by : (t : Bool) → is_in p (cond t (Some f.lost) None) ≡ (t && member f.lost p)
    by true = refl
    by false = refl

-- who fell before the next round is down, and who did not stands as it would
pub stood_fell : {K : Type 0} (o : Option Fall) (r : ℕ) (x : Outcome K) → lasts o r ≡ false
    → (f : Fall) × (o ≡ Some f) × (f.round.0 ≤ r) × (place_by_fall o r x ≡ down f.round)
stood_fell None r x e = absurd (grind arith)
stood_fell (Some f) r x e =
    let l : leb f.round.0 r ≡ true = grind (arith, nat_tests) in
    (f, refl, grind (arith, nat_tests), ap (λ t. cond t (down f.round) (state_of_outcome x)) l)

pub stood_lasts : {K : Type 0} (o : Option Fall) (r : ℕ) (x : Outcome K) → lasts o r ≡ true → place_by_fall o r x ≡ state_of_outcome x
stood_lasts None r x e = refl
stood_lasts (Some f) r x e = let l : leb f.round.0 r ≡ false = grind (arith, nat_tests) in ap (λ t. cond t (down f.round) (state_of_outcome x)) l

-- who closed a round is missed in it by none
pub not_missed : {K : Type 0} (h : History K) (p q r : ℕ) → closes h.falls q r ≡ true → missing_after h p r q ≡ false
unfolding missing_after
not_missed h p q zero c = refl
not_missed h p q (suc r) c = ap not (closing_heard h.falls p (suc r) q c)

module _ {K : Type 0} (kind : Kind K) (h : History K) (limits : is_company h.n h.t ≡ true) where
  few : h.n ≤ 32
  few = grind (arith, nat_tests)

  pub at_place : (p : ℕ) → slice_get (row_by kind h) p ≡ cond (ltb p h.n) (Some (place_by kind h p)) None
  unfolding row_by
  at_place p = get-range (place_by kind h) h.n p

  pub row_length : length (row_by kind h) ≡ h.n
  unfolding row_by
  row_length = length-map-range_with_len (place_by kind h) 0 h.n

  pub fallen_stands : (p : ℕ) → closes h.falls p h.closed ≡ false
      → (f : Fall) × (h.falls p ≡ Some f) × (f.round.0 ≤ h.closed) × (place_by kind h p ≡ down f.round)
  unfolding closes
  fallen_stands p c = stood_fell (h.falls p) h.closed (outcome_of h kind p h.closed) c

  pub lasting_stands : (p : ℕ) → closes h.falls p h.closed ≡ true → place_by kind h p ≡ state_of_outcome (outcome_of h kind p h.closed)
  unfolding closes
  lasting_stands p c = stood_lasts (h.falls p) h.closed (outcome_of h kind p h.closed) c

  module _ (unopened : ℕ → Option (List ℕ)) where
    abbrev s : State K
    s = state_by kind h unopened

    pub up_is : (q : ℕ) → member s.wire.up q ≡ (ltb q h.n && closes h.falls q h.closed)
    unfolding wire_by
    up_is = company_member h.n (λ q. closes h.falls q h.closed) few

    pub lost_is : (q : ℕ) → s.wire.lost q ≡ lost_in (suc h.closed) (h.falls q)
    unfolding wire_by
    lost_is q = refl

    pub n_is : s.wire.n ≡ h.n
    unfolding wire_by
    n_is = refl

    -- who is down or falling fell up to the round to come
    pub gone_is : (q : ℕ) → q < h.n → is_gone s.wire q ≡ fell_before (h.falls q) (suc (suc h.closed))
    gone_is q l =
        let up = up_is q in
        let lost = ap is_some (lost_is q) ∙ lost_some (suc h.closed) (h.falls q) in
        let a = fell_closes h.falls q h.closed in
        let b = fell_next (h.falls q) (suc h.closed) in
        grind (arith, nat_tests)

    -- a box that rings in the last round stands there so, and any other that closed it is at rest with the rule's values
    pub resting_stands : (p : ℕ) → closes h.falls p h.closed ≡ true → rule.rings h p h.closed ≡ false
        → place_by kind h p ≡ at_rest (held_after h kind p h.closed)
    unfolding outcome_of
    resting_stands p c e = lasting_stands p c ∙ ap (λ t. state_of_outcome (cond t (rings (record { 0 = h.closed }) (rule.estimate h kind p h.closed)) (rests (held_after h kind p h.closed)))) e

    pub rings_stands : (p : ℕ) → closes h.falls p h.closed ≡ true → rule.rings h p h.closed ≡ true
        → place_by kind h p ≡ state_of_outcome (rings (record { 0 = h.closed }) (rule.estimate h kind p h.closed))
    unfolding outcome_of
    rings_stands p c e = lasting_stands p c ∙ ap (λ t. state_of_outcome (cond t (rings (record { 0 = h.closed }) (rule.estimate h kind p h.closed)) (rests (held_after h kind p h.closed)))) e

    -- whom a box misses is not up
    misses_none : (p q : ℕ) → (member (held_after h kind p h.closed).missing q && member s.wire.up q) ≡ false
    unfolding held_after
    misses_none p q =
        let a = company_member h.n (missing_after h p h.closed) few q in
        let b = up_is q in
        let c = not_missed h p q h.closed in
        grind arith

    own_place : (p : ℕ) → is_other s p (held_after h kind p h.closed) ≡ false
    unfolding held_after wire_by
    own_place p =
        let none = none_any (λ q. member (held_after h kind p h.closed).missing q && member s.wire.up q) 32 (λ q _. misses_none p q) in
        grind (arith, nat_tests)

    -- no box rings before the first round
    rung_late : (p r : ℕ) → rule.rings h p r ≡ true → eqb r 0 ≡ false
    unfolding rule.best_horizon rule.smallest
    rung_late p zero e = grind (arith, nat_tests)
    rung_late p (suc r) e = grind (arith, nat_tests)

    -- what stands at a place may stand there
    placed : (p : ℕ) → p < h.n → is_misplaced s p (place_by kind h p) ≡ false
    placed p l = by (cases_Bool (closes h.falls p h.closed)) (cases_Bool (rule.rings h p h.closed))
      where
        by : (closes h.falls p h.closed ≡ true) ⊎ (closes h.falls p h.closed ≡ false)
            → (rule.rings h p h.closed ≡ true) ⊎ (rule.rings h p h.closed ≡ false) → is_misplaced s p (place_by kind h p) ≡ false
        by (inr off) r = fell (fallen_stands p off)
          where
            fell : (f : Fall) × (h.falls p ≡ Some f) × (f.round.0 ≤ h.closed) × (place_by kind h p ≡ down f.round)
                → is_misplaced s p (place_by kind h p) ≡ false
            fell (f, e, k, is) = ap (is_misplaced s p) is ∙ (let u = up_is p in grind arith)
        by (inl c) (inl r) = ap (is_misplaced s p) (rings_stands p c r) ∙ (let u = up_is p in let z = rung_late p h.closed r in grind (arith, nat_tests))
        by (inl c) (inr r) = ap (is_misplaced s p) (resting_stands p c r) ∙ (let u = up_is p in let o = own_place p in grind (arith, nat_tests))

    module _ (due : (q : ℕ) → is_some (h.falls q) ≡ fell_before (h.falls q) (suc (suc h.closed))) where
      pub gone_counted : gone_count s.wire ≡ count (λ q. is_some (h.falls q)) h.n
      unfolding wire_by
      gone_counted = count_ext (is_gone s.wire) (λ q. is_some (h.falls q)) h.n (λ q l. gone_is q l ∙ sym (due q))

      -- the row is not refused
      pub row_good : count (λ q. is_some (h.falls q)) h.n ≤ h.t → bad_row s ≡ false
      unfolding bad_row
      row_good most =
          let len = row_length in
          let n = n_is in
          let g = gone_counted in
          let all = numbered_none (is_misplaced s) s.row (λ p x at. at_is p x at) in
          grind (arith, nat_tests)
        where
          at_is : (p : ℕ) (x : PlaceState K) → slice_get s.row p ≡ Some x → is_misplaced s p x ≡ false
          at_is p x at = by (cases_Bool (ltb p h.n))
            where
              by : (ltb p h.n ≡ true) ⊎ (ltb p h.n ≡ false) → is_misplaced s p x ≡ false
              by (inl l) =
                  let same : Some (place_by kind h p) ≡ Some x = ap (λ t. cond t (Some (place_by kind h p)) None) (sym l) ∙ sym (at_place p) ∙ at in
                  let is : place_by kind h p ≡ x = cc in
                  ap (is_misplaced s p) (sym is) ∙ placed p (grind (arith, nat_tests))
              by (inr l) = absurd (let none : None ≡ Some x = ap (λ t. cond t (Some (place_by kind h p)) None) (sym l) ∙ sym (at_place p) ∙ at in grind arith)
