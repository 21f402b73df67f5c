-- A round that is accepted.
use Rattle.std.specs.List.{slice_get}
use Rattle.std.proofs.Common.{◌≡◌, ℕ, suc, ◌+◌, ◌<◌, ◌≤◌, Bool, true, false, not, ◌&&◌, cond, eqb, leb, ltb, ◌⊎◌, List, [], ◌∷◌, is_some, Some, None, Ok, Option, option_map, sym, refl, ap, ◌∙◌, inl, inr, add-one, arith}
use Rattle.std.proofs.lemmas.Bool.{cases_Bool, cases_eq, both_ways, eqb-true}
use Rattle.std.proofs.lemmas.Bool.Decides.{nat_tests}
use Rattle.base.specs.declared.refusal.Refusal.TheVariants as refusal
use Rattle.base.specs.Refusals.{unless}
use Rattle.base.specs.Numbered.{by_number}
use Rattle.base.proofs.NumberedLemmas.{list_ext, get-by_number, list_none}
use Rattle.sets.specs.Masks.{member}
use Rattle.sets.proofs.BitLemmas.{set_ext}
use Rattle.proposals.specs.Kinds.{Kind}
use Rattle.machine.specs.Frames.{frame_bytes}
use Rattle.machine.specs.Held.{Held}
use Rattle.machine.specs.Boxes.{frame_of}
use Rattle.machine.specs.BoxRounds.{Outcome, rings, close_with}
use Rattle.machine.specs.ByFrames.{HeardFrames, close_by_frames, outcome_by_frames}
use Rattle.machine.specs.WireState.{is_in}
use Rattle.rule.specs.declared.falls.Fall.{Fall}
use Rattle.rule.specs.Falls.{fell_before, fell_in, lasts, closes, hears}
use Rattle.rule.specs.Histories.{History, IsAllowed}
use Rattle.rule.specs.RuleValues as rule
use Rattle.rule.specs.HeldValues.{held_after, frame_after, outcome_of, hears_of_company, heard_after}
use Rattle.rule.specs.RuleLaws.{IsQuietBefore, BoxFollows, OnlyPastCounts}
use Rattle.rule.proofs.RoundLemmas.{closed_before, fell_closes, fell_next, fell_once, unheard_open}
use Rattle.machine.specs.Places.{PlaceState, at_rest, down, state_of_outcome}
use Rattle.machine.specs.State.{State, hears_on, has_rung}
use Rattle.machine.specs.RoundCall.{frame_at, sent_frame, frames_heard_by, round_to_come, place_after, state_after_round}
use Rattle.machine.specs.RowCheck.{is_over}
use Rattle.promise.specs.StateByHistory.{lost_in, place_by_fall, place_by, row_by, posted_by, wire_by, state_by}
use Rattle.promise.proofs.StateByPlace.{lost_some, lost_holds, at_place, fallen_stands, lasting_stands, resting_stands, rings_stands, up_is, lost_is}
use Rattle.promise.proofs.KeptFromCallToCall.{Going}
use Rattle.promise.proofs.FallAccepted.{none_of}
use Rattle.promise.proofs.SamePast.{held_same, rings_same, outcome_same}

-- where the rule refuses nothing, what becomes of the box is what it says
ruled_so : {K : Type 0} (kind : Kind K) (b : Held K) (h : HeardFrames K) (o : Outcome K) → close_by_frames kind b h ≡ Ok o
    → outcome_by_frames kind b h ≡ o
unfolding close_by_frames outcome_by_frames close_with
ruled_so kind b h o e = by _ (outcome_by_frames kind b h) e
  where
    by : (t : Bool) (x : Outcome _) → unless ((t, refusal.Tally) ∷ []) x ≡ Ok o → x ≡ o
    by true x e = absurd (grind arith)
    by false x e = cc

last_before : (o : Option Fall) (f : Fall) (r : ℕ) → o ≡ Some f → lasts o r ≡ true → r < f.round.0
last_before o f r e l = let a = ap (λ x. lasts x r) (sym e) ∙ l in grind (arith, nat_tests)

fell_some : (o : Option Fall) (r : ℕ) → fell_in o r ≡ true → is_some o ≡ true
fell_some None r e = e
fell_some (Some f) r e = refl

module _ {K : Type 0} (kind : Kind K) (unopened : ℕ → Option (List ℕ)) (h : History K) (allowed : IsAllowed h)
    (quiet : IsQuietBefore h h.closed)
    (due : (q : ℕ) → is_some (h.falls q) ≡ fell_before (h.falls q) (suc (suc h.closed))) where
  abbrev s : State K
  s = state_by kind h unopened

  abbrev then : History K
  then = record h { closed = suc h.closed }

  module _ (still : is_over s ≡ false) (follows : BoxFollows h kind) (only_past : (h : History K) → OnlyPastCounts h kind) where
    -- no box that closed the last round rings
    silent : (p : ℕ) → p < h.n → closes h.falls p h.closed ≡ true → rule.rings h p h.closed ≡ false
    silent p l c = by (cases_Bool (rule.rings h p h.closed))
      where
        by : (rule.rings h p h.closed ≡ true) ⊎ (rule.rings h p h.closed ≡ false) → rule.rings h p h.closed ≡ false
        by (inr e) = e
        by (inl e) =
            let there : slice_get (row_by kind h) p ≡ Some (state_of_outcome (rings (record { 0 = h.closed }) (rule.estimate h kind p h.closed))) =
            at_place kind h allowed.size p ∙ ap (λ t. cond t (Some (place_by kind h p)) None) (let k : ltb p h.n ≡ true = grind (arith, nat_tests) in k) ∙ ap Some (rings_stands kind h allowed.size unopened p c e) in
            absurd (both_ways (has_rung (state_of_outcome (rings (record { 0 = h.closed }) (rule.estimate h kind p h.closed)))) (list_none has_rung s.row still p _ there) refl)

    at_rest_there : (p : ℕ) → p < h.n → closes h.falls p h.closed ≡ true
        → slice_get (row_by kind h) p ≡ Some (at_rest (held_after h kind p h.closed))
    at_rest_there p l c =
        at_place kind h allowed.size p ∙ ap (λ t. cond t (Some (place_by kind h p)) None) (let k : ltb p h.n ≡ true = grind (arith, nat_tests) in k)
        ∙ ap Some (resting_stands kind h allowed.size unopened p c (silent p l c))

    sent_is : (q : ℕ) → q < h.n → closes h.falls q h.closed ≡ true → sent_frame s q ≡ Some (frame_after h kind q h.closed)
    sent_is q l c = ap frame_at (at_rest_there q l c)

    -- ---- who is heard

    hears_same : (p q : ℕ) → closes h.falls p (suc h.closed) ≡ true → hears_on s.wire p q ≡ hears_of_company h p (suc h.closed) q
    unfolding hears
    hears_same p q c =
        let u = up_is kind h allowed.size unopened q in
        let l = ap (is_in p) (lost_is kind h allowed.size unopened q) ∙ lost_holds (suc h.closed) p (h.falls q) in
        let b = fell_closes h.falls q h.closed in
        let o = unheard_open h.falls q (suc h.closed) p in
        let own : eqb q p ≡ true → closes h.falls q (suc h.closed) ≡ true = λ e. ap (λ x. closes h.falls x (suc h.closed)) (eqb-true q p e) ∙ c in
        let before : closes h.falls q (suc h.closed) ≡ true → closes h.falls q h.closed ≡ true = closed_before h.falls q h.closed in
        grind arith

    heard_is : (p q : ℕ) → closes h.falls p (suc h.closed) ≡ true → p < h.n → frames_heard_by s p q ≡ heard_after h kind p h.closed q
    unfolding heard_after
    heard_is p q c l = by (cases_Bool (hears_on s.wire p q))
      where
        same : hears_on s.wire p q ≡ hears_of_company h p (suc h.closed) q
        same = hears_same p q c

        by : (hears_on s.wire p q ≡ true) ⊎ (hears_on s.wire p q ≡ false)
            → cond (hears_on s.wire p q) (sent_frame s q) None
            ≡ cond (hears_of_company h p (suc h.closed) q) (Some (frame_after h kind q h.closed)) None
        by (inl e) =
            let u = up_is kind h allowed.size unopened q in
            ap (λ t. cond t (sent_frame s q) None) e ∙ sent_is q (grind (arith, nat_tests)) (grind arith)
            ∙ ap (λ t. cond t (Some (frame_after h kind q h.closed)) None) (sym (sym same ∙ e))
        by (inr e) = ap (λ t. cond t (sent_frame s q) None) e ∙ ap (λ t. cond t (Some (frame_after h kind q h.closed)) None) (sym (sym same ∙ e))

    -- ---- what the round makes of each place

    up_so : (i : ℕ) → (member s.wire.up i && not (is_some (s.wire.lost i))) ≡ (ltb i h.n && closes h.falls i (suc h.closed))
    up_so i =
        let u = up_is kind h allowed.size unopened i in
        let l = ap is_some (lost_is kind h allowed.size unopened i) ∙ lost_some (suc h.closed) (h.falls i) in
        let a = fell_closes h.falls i h.closed in
        let b = fell_closes h.falls i (suc h.closed) in
        let n = fell_next (h.falls i) (suc h.closed) in
        grind arith

    lasting : (p r : ℕ) → closes h.falls p r ≡ true → lasts (h.falls p) r ≡ true
    unfolding closes
    lasting p r c = c

    fallen_so : (p : ℕ) → closes h.falls p h.closed ≡ false → place_after kind s p (place_by kind h p) ≡ place_by kind then p
    fallen_so p c = by (fallen_stands kind h allowed.size p c)
      where
        by : (f : Fall) × (h.falls p ≡ Some f) × (f.round.0 ≤ h.closed) × (place_by kind h p ≡ down f.round)
            → place_after kind s p (place_by kind h p) ≡ place_by kind then p
        by (f, e, k, is) =
            let late : true ≡ leb f.round.0 (suc h.closed) = grind (arith, nat_tests) in
            ap (place_after kind s p) is
            ∙ ap (λ t. cond t (down f.round) (state_of_outcome (outcome_of then kind p (suc h.closed)))) late
            ∙ ap (λ o. place_by_fall o (suc h.closed) (outcome_of then kind p (suc h.closed))) (sym e)

    falls_so : (p : ℕ) → p < h.n → closes h.falls p h.closed ≡ true → closes h.falls p (suc h.closed) ≡ false
        → place_after kind s p (place_by kind h p) ≡ place_by kind then p
    falls_so p l c d =
        ap (place_after kind s p) (resting_stands kind h allowed.size unopened p c (silent p l c))
        ∙ by (fallen_stands kind then allowed.size p d)
      where
        rested : PlaceState K
        rested = state_of_outcome (outcome_by_frames kind (held_after h kind p h.closed) (frames_heard_by s p))

        round_is : (f : Fall) → h.falls p ≡ Some f → f.round.0 ≤ suc h.closed → f.round.0 ≡ h.closed + 1
        round_is f e k = let o = last_before (h.falls p) f h.closed e (lasting p h.closed c) in omega arith

        by : (f : Fall) × (h.falls p ≡ Some f) × (f.round.0 ≤ suc h.closed) × (place_by kind then p ≡ down f.round)
            → cond (is_some (s.wire.lost p)) (down (round_to_come s)) rested ≡ place_by kind then p
        by (f, e, k, is) =
            let r = round_is f e k in
            let i : fell_in (h.falls p) (suc h.closed) ≡ true = ap (λ o. fell_in o (suc h.closed)) e ∙ grind (arith, nat_tests) in
            let t : is_some (s.wire.lost p) ≡ true = ap is_some (lost_is kind h allowed.size unopened p) ∙ lost_some (suc h.closed) (h.falls p) ∙ i in
            ap (λ t. cond t (down (round_to_come s)) rested) t ∙ (λ j. down (record { 0 = sym r j })) ∙ sym is

    closing_so : (p : ℕ) → p < h.n → closes h.falls p (suc h.closed) ≡ true
        → place_after kind s p (place_by kind h p) ≡ place_by kind then p
    closing_so p l d =
        let c = closed_before h.falls p h.closed d in
        let u = up_so p in
        let t : is_some (s.wire.lost p) ≡ false = (let v = up_is kind h allowed.size unopened p in grind arith) in
        let b = held_after h kind p h.closed in
        ap (place_after kind s p) (resting_stands kind h allowed.size unopened p c (silent p l c))
        ∙ ap (λ t. cond t (down (round_to_come s)) (state_of_outcome (outcome_by_frames kind b (frames_heard_by s p)))) t
        ∙ ap state_of_outcome (
        ap (outcome_by_frames kind b) (λ j q. heard_is p q d l j)
        ∙ ruled_so kind b (heard_after h kind p h.closed) (outcome_of h kind p (suc h.closed)) (follows allowed p h.closed l d)
        ∙ sym (outcome_same kind only_past then h (suc h.closed) refl p (suc h.closed) (omega arith)))
        ∙ sym (lasting_stands kind then allowed.size p d)

    stands_so : (p : ℕ) → p < h.n → place_after kind s p (place_by kind h p) ≡ place_by kind then p
    stands_so p l = by (cases_Bool (closes h.falls p h.closed)) (cases_Bool (closes h.falls p (suc h.closed)))
      where
        by : (closes h.falls p h.closed ≡ true) ⊎ (closes h.falls p h.closed ≡ false)
            → (closes h.falls p (suc h.closed) ≡ true) ⊎ (closes h.falls p (suc h.closed) ≡ false)
            → place_after kind s p (place_by kind h p) ≡ place_by kind then p
        by (inr c) d = fallen_so p c
        by (inl c) (inr d) = falls_so p l c d
        by (inl c) (inl d) = closing_so p l d

    row_so : by_number (place_after kind s) (row_by kind h) ≡ row_by kind then
    row_so = list_ext (by_number (place_after kind s) (row_by kind h)) (row_by kind then) (λ p.
        get-by_number (place_after kind s) (row_by kind h) p ∙ ap (option_map (place_after kind s p)) (at_place kind h allowed.size p)
        ∙ by p (ltb p h.n) (λ e. stands_so p (grind (arith, nat_tests))) ∙ sym (at_place kind then allowed.size p))
      where
        by : (p : ℕ) (t : Bool) → (t ≡ true → place_after kind s p (place_by kind h p) ≡ place_by kind then p)
            → option_map (place_after kind s p) (cond t (Some (place_by kind h p)) None) ≡ cond t (Some (place_by kind then p)) None
        by p true e = ap Some (e refl)
        by p false e = refl

    -- ---- the wire

    lost_so : (i : ℕ) → lost_in (suc (suc h.closed)) (h.falls i) ≡ None
    lost_so i =
        let d = due i in
        let l = lost_some (suc (suc h.closed)) (h.falls i) in
        let o = fell_once (h.falls i) (suc (suc h.closed)) in
        let f = fell_some (h.falls i) (suc (suc h.closed)) in
        none_of (lost_in (suc (suc h.closed)) (h.falls i)) (grind arith)

    posted_so : (i : ℕ)
        → cond (member s.wire.up i) (option_map (frame_bytes kind) (sent_frame s i)) None ≡ posted_by kind then unopened (suc h.closed) i
    unfolding posted_by
    posted_so i =
        let u = up_is kind h allowed.size unopened i in
        let b = fell_closes h.falls i h.closed in
        by (ltb i h.n && not (fell_before (h.falls i) (suc h.closed))) refl (grind arith)
      where
        by : (t : Bool) → (ltb i h.n && not (fell_before (h.falls i) (suc h.closed))) ≡ t → member s.wire.up i ≡ t
            → cond (member s.wire.up i) (option_map (frame_bytes kind) (sent_frame s i)) None
            ≡ cond t (Some (frame_bytes kind (frame_after then kind i h.closed))) None
        by false e u = ap (λ t. cond t (option_map (frame_bytes kind) (sent_frame s i)) None) u
        by true e u =
            let c = fell_closes h.falls i h.closed in
            ap (λ t. cond t (option_map (frame_bytes kind) (sent_frame s i)) None) u
            ∙ ap (option_map (frame_bytes kind)) (sent_is i (grind (arith, nat_tests)) (grind arith))
            ∙ ap (λ x. Some (frame_bytes kind (frame_of x))) (sym (held_same kind only_past then h (suc h.closed) refl i h.closed (omega arith)))

    pub round_kept : Going kind unopened (state_after_round kind s) then
    unfolding wire_by
    round_kept = record {
      allowed = record { size = allowed.size; dated = allowed.dated; few = allowed.few };
      quiet = λ p k l r. silent_before p k l r.0 r.1 (sym (rings_same kind only_past then h (suc h.closed) refl p k (omega arith)) ∙ r.2);
      due = λ q. let d = due q in let n = fell_next (h.falls q) (suc (suc h.closed)) in let f = fell_some (h.falls q) (suc (suc h.closed)) in grind arith;
      is = λ j. record {
        wire = record {
          n = h.n;
          up = set_ext (λ i. member s.wire.up i && not (is_some (s.wire.lost i))) (λ i. ltb i h.n && closes h.falls i (suc h.closed)) (λ i _. up_so i) j;
          lost = λ i. sym (lost_so i) j;
          posted = λ i. posted_so i j;
        };
        t = h.t;
        closed = add-one h.closed j;
        row = row_so j;
      };
    }
      where
        silent_before : (p k : ℕ) → k < suc h.closed → p < h.n → closes h.falls p k ≡ true → rule.rings h p k ≡ true → ⊥
        silent_before p k l m c r = by (cases_eq k h.closed)
          where
            by : (k ≡ h.closed) ⊎ (k ≡ h.closed → ⊥) → ⊥
            by (inl e) = both_ways (rule.rings h p h.closed) (silent p m (ap (closes h.falls p) (sym e) ∙ c)) (ap (rule.rings h p) (sym e) ∙ r)
            by (inr off) = quiet p k (omega arith) (m, c, r)
