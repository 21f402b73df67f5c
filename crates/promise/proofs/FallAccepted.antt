-- A fall that is accepted.
use Rattle.std.specs.List.{range_with_len}
use Rattle.std.proofs.Common.{◌≡◌, ℕ, zero, suc, ◌<◌, ◌≤◌, Bool, true, false, not, ◌&&◌, ◌||◌, cond, eqb, leb, ltb, ◌⊎◌, List, map, is_some, Some, None, Option, sym, refl, ap, ◌∙◌, inl, inr, arith}
use Rattle.std.proofs.lemmas.Bool.{cases_Bool, eqb-true}
use Rattle.std.proofs.lemmas.Bool.Decides.{nat_tests}
use Rattle.base.specs.Counts.{count}
use Rattle.base.proofs.CountLemmas.{any_none, none_any, count_ext, count_more}
use Rattle.sets.specs.declared.set.BoxSet.{BoxSet}
use Rattle.sets.specs.Masks.{member, set_of}
use Rattle.proposals.specs.Kinds.{Kind}
use Rattle.machine.specs.Frames.{frame_bytes}
use Rattle.machine.specs.Boxes.{frame_of}
use Rattle.machine.specs.WireState.{with_falling}
use Rattle.rule.specs.declared.falls.Fall.{Fall}
use Rattle.rule.specs.Falls.{Falls, with_fall, fell_before}
use Rattle.rule.specs.Histories.{History, IsAllowed, as_of}
use Rattle.rule.specs.HeldValues.{outcome_of}
use Rattle.rule.specs.RuleLaws.{IsQuietBefore, OnlyPastCounts, FallToComeCountsNot}
use Rattle.rule.proofs.RoundLemmas.{fell_closes, fell_next}
use Rattle.machine.specs.Places.{down, state_of_outcome}
use Rattle.machine.specs.State.{State, gone_count}
use Rattle.promise.specs.StateByHistory.{lost_in, place_by_fall, place_by, row_by, posted_by, wire_by, state_by}
use Rattle.promise.proofs.StateByPlace.{lost_some, up_is, lost_is, gone_counted}
use Rattle.promise.proofs.KeptFromCallToCall.{Going}
use Rattle.promise.proofs.SamePast.{closes_same, held_same, rings_same, outcome_same}

pub none_of : {X : Type 0} (o : Option X) → is_some o ≡ false → o ≡ None
none_of None e = refl
none_of (Some x) e = absurd (grind arith)

module _ {K : Type 0} (kind : Kind K) (unopened : ℕ → Option (List ℕ)) (coming : FallToComeCountsNot)
    (only_past : (h : History K) → OnlyPastCounts h kind)
    (h : History K) (allowed : IsAllowed h) (quiet : IsQuietBefore h h.closed)
    (due : (q : ℕ) → is_some (h.falls q) ≡ fell_before (h.falls q) (suc (suc h.closed)))
    (q : ℕ) (lost : BoxSet) where
  abbrev s : State K
  s = state_by kind h unopened

  abbrev fall_now : Fall
  fall_now = record { round = record { 0 = suc h.closed }; lost = lost }

  abbrev falls : Falls
  falls = with_fall (suc h.closed) q lost h.falls

  abbrev then : History K
  then = record h { falls = falls }

  module _ (placed : q < h.n) (up : member s.wire.up q ≡ true) (unfallen : s.wire.lost q ≡ None) (spare : gone_count s.wire < h.t) where
    none : h.falls q ≡ None
    none =
        let u = up_is kind h allowed.size unopened q in
        let l = ap is_some (sym (lost_is kind h allowed.size unopened q) ∙ unfallen) in
        let k = lost_some (suc h.closed) (h.falls q) in
        let a = fell_closes h.falls q h.closed in
        let b = fell_next (h.falls q) (suc h.closed) in
        let d = due q in
        none_of (h.falls q) (grind arith)

    -- ---- up to the last closed round nothing changes

    same : as_of h.closed then ≡ as_of h.closed h
    same = ap (λ f. record h { falls = f }) (coming h.falls h.closed (suc h.closed) q lost none (omega arith))

    -- ---- the wire and the row

    lost_same : (i : ℕ) → lost_in (suc h.closed) (falls i) ≡ cond (eqb i q) (Some lost) (lost_in (suc h.closed) (h.falls i))
    lost_same i = by (eqb i q)
      where
        own : eqb (suc h.closed) (suc h.closed) ≡ true
        own = grind (arith, nat_tests)

        by : (t : Bool)
            → lost_in (suc h.closed) (cond t (Some (record { round = record { 0 = suc h.closed }; lost = lost })) (h.falls i))
            ≡ cond t (Some lost) (lost_in (suc h.closed) (h.falls i))
        by true = ap (λ t. cond t (Some lost) None) own
        by false = refl

    stands_same : (p : ℕ) → place_by kind then p ≡ place_by kind h p
    stands_same p = by (cases_Bool (eqb p q))
      where
        late : leb (suc h.closed) h.closed ≡ false
        late = grind (arith, nat_tests)

        by : (eqb p q ≡ true) ⊎ (eqb p q ≡ false) → place_by kind then p ≡ place_by kind h p
        by (inl e) =
            ap (λ t. place_by_fall (cond t (Some fall_now) (h.falls p)) h.closed (outcome_of then kind p h.closed)) e
            ∙ ap (λ t. cond t (down fall_now.round) (state_of_outcome (outcome_of then kind p h.closed))) late
            ∙ ap state_of_outcome (outcome_same kind only_past then h h.closed same p h.closed (omega arith))
            ∙ ap (λ o. place_by_fall o h.closed (outcome_of h kind p h.closed)) (sym none ∙ ap h.falls (sym (eqb-true p q e)))
        by (inr e) = (λ j. place_by_fall (cond (e j) (Some fall_now) (h.falls p)) h.closed (outcome_same kind only_past then h h.closed same p h.closed (omega arith) j))

    posted_same : (r i : ℕ) → r ≤ h.closed → posted_by kind then unopened r i ≡ posted_by kind h unopened r i
    unfolding posted_by
    posted_same zero i l = refl
    posted_same (suc r) i l =
        let before : fell_before (falls i) (suc r) ≡ fell_before (h.falls i) (suc r) = fell_closes falls i r ∙ ap not (closes_same kind only_past then h h.closed same i r (omega arith)) ∙ sym (fell_closes h.falls i r) in
        λ j. cond (ltb i h.n && not (before j)) (Some (frame_bytes kind (frame_of (held_same kind only_past then h h.closed same i r (omega arith) j)))) None

    pub fall_kept : Going kind unopened (record s { wire = with_falling q lost s.wire }) then
    unfolding wire_by row_by
    fall_kept = record {
      allowed = record { size = allowed.size; dated = none_any (λ k. fell_before (falls k) 1) h.n (λ k l. dated (eqb k q) (h.falls k) (any_none (λ i. fell_before (h.falls i) 1) h.n allowed.dated k l)); few = few };
      quiet = λ p k l rings. quiet p k l (rings.0, sym (closes_same kind only_past then h h.closed same p k (omega arith)) ∙ rings.1, sym (rings_same kind only_past then h h.closed same p k (omega arith)) ∙ rings.2);
      due = λ k. due_now (eqb k q) (h.falls k) (due k);
      is = λ j. record {
        wire = record {
          n = h.n;
          up = set_of (λ i. ltb i h.n && sym (closes_same kind only_past then h h.closed same i h.closed (omega arith)) j);
          lost = λ i. sym (lost_same i) j;
          posted = λ i. sym (posted_same h.closed i (omega arith)) j;
        };
        t = h.t;
        closed = h.closed;
        row = map (λ p. sym (stands_same p) j) (range_with_len 0 h.n);
      };
    }
      where
        dated : (t : Bool) (o : Option Fall) → fell_before o 1 ≡ false → fell_before (cond t (Some fall_now) o) 1 ≡ false
        dated true o e = grind (arith, nat_tests)
        dated false o e = e

        due_now : (t : Bool) (o : Option Fall) → is_some o ≡ fell_before o (suc (suc h.closed))
            → is_some (cond t (Some fall_now) o) ≡ fell_before (cond t (Some fall_now) o) (suc (suc h.closed))
        due_now true o e = grind (arith, nat_tests)
        due_now false o e = e

        more : (t : Bool) (o : Option Fall) → is_some (cond t (Some fall_now) o) ≡ (is_some o || t)
        more true None = refl
        more true (Some f) = refl
        more false None = refl
        more false (Some f) = refl

        few : count (λ k. is_some (falls k)) h.n ≤ h.t
        few =
            let e = count_ext (λ k. is_some (falls k)) (λ k. is_some (h.falls k) || eqb k q) h.n (λ k l. more (eqb k q) (h.falls k)) in
            let m = count_more (λ k. is_some (h.falls k)) h.n q placed (ap is_some none) in
            let g = gone_counted kind h allowed.size unopened due in
            omega arith
