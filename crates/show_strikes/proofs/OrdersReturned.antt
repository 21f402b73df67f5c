-- The orders in hand after a list of calls are taken back, one after another. Assumes nothing.
use Rattle.base.specs.Results.{refused_with}
use Rattle.std.specs.Bool.{⊤}
use Rattle.std.proofs.Common.{◌≡◌, ℕ, zero, suc, ◌+◌, ◌≤◌, Bool, true, false, cond, ◌&&◌, eqb, List, [], ◌∷◌, get_or, Some, None, Ok, Err, OnOk, OnErr, Option, option_map, Result, sym, refl, ap, ◌∙◌, subst, arith}
use Rattle.std.specs.List.{slice_get}
use Rattle.std.proofs.lemmas.Bool.Decides.{nat_tests}
use Rattle.base.specs.declared.refusal.Refusal.{Refusal}
use Rattle.base.specs.Results.{map_fault}
use Rattle.machine.specs.declared.place.Blow.{Blow}
use Rattle.machine.specs.declared.place.Blow.TheVariants as blow
use Rattle.machine.specs.Places.{PlaceState, at_rest, down, rung, with_its_blow, is_out}
use Rattle.machine.specs.State.{State}
use Rattle.machine.specs.RowCheck.{is_misplaced, bad_row}
use Rattle.machine.specs.OrderCalls.{with_blow, is_out_in, on_report}
use Rattle.base.proofs.NumberedLemmas.{get-by_number, length-by_number, any-by_number}
use Rattle.ringing.specs.declared.strike.StrikeOrder.{StrikeOrder}
use Rattle.call_lists.specs.OrdersInHand.{orders_out}
use Rattle.call_lists.proofs.SlotLemmas.{out_here, slot_is}
use Rattle.show_strikes.specs.Returned.{IsTakenBack, orders_returned, IsReady, AreReady}

pub ready_none : {K : Type 0} (s : State K) (p : ℕ) (x : Option StrikeOrder) → x ≡ None → IsReady s p x
ready_none s p x none o is = absurd (grind arith)

pub ready_out : {K : Type 0} (s : State K) (p : ℕ) (orders : List (Option StrikeOrder)) → bad_row s ≡ false → orders ≡ orders_out s.row → IsReady s p (get_or orders p None)
ready_out {K} s p orders good out o is = by (slice_get s.row p) (sym (ap (λ l. get_or l p None) out ∙ slot_is s.row p) ∙ is)
  where
    by : (x : Option (PlaceState K)) → out_here p x ≡ Some o → (o.number.0 ≡ p) × (bad_row s ≡ false) × (is_out_in o.round x ≡ true)
    by None e = absurd (grind arith)
    by (Some (at_rest b)) e = absurd (grind arith)
    by (Some (down r)) e = absurd (grind arith)
    by (Some (rung x)) e = at (is_out x.blow) refl e
      where
        at : (t : Bool) → is_out x.blow ≡ t → option_map (λ r. record { number = record { 0 = p }; round = r }) (cond t (Some x.round) None) ≡ Some o
            → (o.number.0 ≡ p) × (bad_row s ≡ false) × ((is_out x.blow && eqb x.round.0 o.round.0) ≡ true)
        at false e f = absurd (grind arith)
        at true e f =
            let same : record { number = record { 0 = p }; round = x.round } ≡ o = cc in
            (sym (ap (λ y. y.number.0) same), good, (let r = ap (λ y. y.round.0) same in grind (arith, nat_tests, e, r)))

-- so it is taken back
pub taken_back : {K : Type 0} (s : State K) (p : ℕ) (x : Option StrikeOrder) → IsReady s p x → IsTakenBack s x
unfolding on_report
taken_back s p x ready o is =
    let r = ready o is in
    let there = ap (λ k. is_out_in o.round (slice_get s.row k)) r.0 ∙ r.2 in
    grind (arith, r.1, there)

-- ---- and leaves the others ready

module _ {K : Type 0} (s : State K) (b : Blow) (p : ℕ) where
  f : ℕ → PlaceState K → PlaceState K
  f q x = cond (eqb q p) (with_its_blow b x) x

  placed_same : (q : ℕ) (x : PlaceState K) → is_misplaced (with_blow b p s) q (cond (eqb q p) (with_its_blow b x) x) ≡ is_misplaced s q x
  placed_same q x = by (eqb q p) x
    where
      by : (t : Bool) (x : PlaceState K) → is_misplaced (with_blow b p s) q (cond t (with_its_blow b x) x) ≡ is_misplaced s q x
      by true (at_rest h) = refl
      by true (down r) = refl
      by true (rung y) = refl
      by false (at_rest h) = refl
      by false (down r) = refl
      by false (rung y) = refl

  bad_same : bad_row (with_blow b p s) ≡ bad_row s
  unfolding bad_row
  bad_same =
      let len = length-by_number (λ q x. cond (eqb q p) (with_its_blow b x) x) s.row in
      let fits = any-by_number (λ q x. cond (eqb q p) (with_its_blow b x) x) (is_misplaced s) (is_misplaced (with_blow b p s)) placed_same s.row in
      grind (arith, nat_tests)

  other_place : (q : ℕ) → eqb q p ≡ false → slice_get (with_blow b p s).row q ≡ slice_get s.row q
  other_place q e = get-by_number (λ q x. cond (eqb q p) (with_its_blow b x) x) s.row q ∙ ap (λ t. option_map (λ x. cond t (with_its_blow b x) x) (slice_get s.row q)) e ∙ by (slice_get s.row q)
    where
      by : (o : Option (PlaceState K)) → option_map (λ x. x) o ≡ o
      by None = refl
      by (Some x) = refl

pub ready_next : {K : Type 0} (s : State K) (p q : ℕ) (x y : Option StrikeOrder) → eqb q p ≡ false → IsReady s p x → IsReady s q y → IsReady (orders_returned x s) q y
ready_next s p q None y other first second = second
ready_next s p q (Some o) y other first second = λ k is.
    let r = first o refl in
    let t = second k is in
    let off : eqb q o.number.0 ≡ false = ap (eqb q) r.0 ∙ other in
    (t.0, bad_same s blow.Missed o.number.0 ∙ t.1, ap (is_out_in k.round) (other_place s blow.Missed o.number.0 q off) ∙ t.2)

-- one slot after another
pub ReadyFrom : {K : Type 0} → State K → ℕ → List (Option StrikeOrder) → Type 0
ReadyFrom s k orders = (p : ℕ) → k ≤ p → IsReady s p (get_or orders p None)

pub ready_from : {K : Type 0} (s : State K) (orders : List (Option StrikeOrder)) → AreReady s orders → ReadyFrom s 0 orders
unfolding ReadyFrom
ready_from s orders ready p l = ready p

pub back_now : {K : Type 0} (s : State K) (k : ℕ) (orders : List (Option StrikeOrder)) → ReadyFrom s k orders → IsTakenBack s (get_or orders k None)
unfolding ReadyFrom
back_now s k orders ready = taken_back s k (get_or orders k None) (ready k (omega arith))

pub back_on : {K : Type 0} (s : State K) (k : ℕ) (orders : List (Option StrikeOrder)) (then : State K) → then ≡ orders_returned (get_or orders k None) s → ReadyFrom s k orders
    → ReadyFrom then (k + 1) orders
unfolding ReadyFrom
back_on s k orders then is ready p l =
    subst (λ x. IsReady x p (get_or orders p None)) (sym is)
    (ready_next s k p (get_or orders k None) (get_or orders p None) (let e : eqb p k ≡ false = grind (arith, nat_tests) in e) (ready k (omega arith)) (ready p (omega (arith, l))))

-- ---- after the list

-- a ringing that was made
pub made_of : {K W : Type 0} (w : W) (r : Result (State K) Refusal) (x : State K) → Ok x ≡ map_fault (refused_with w) r → r ≡ Ok x
made_of w (Ok y) x e = cc
made_of w (Err d) x e = absurd (grind arith)

-- where the list was made, the slots hold the orders that are out; and where it was refused they hold what they held
pub ready_all : {K : Type 0} (s : State K) (orders : List (Option StrikeOrder)) (r : Result ⊤ Refusal) {A B C : Type 0} → (A → orders ≡ orders_out s.row) → (B → bad_row s ≡ false)
    → (C → orders ≡ None ∷ None ∷ None ∷ None ∷ []) → OnOk r A → OnOk r B → OnErr r C → AreReady s orders
ready_all s orders (Ok x) out good held a b c p = ready_out s p orders (good b) (out a)
ready_all s orders (Err e) out good held a b c p = ready_none s p (get_or orders p None) (ap (λ l. get_or l p None) (held c) ∙ nothing p)
  where
    none : Option StrikeOrder
    none = None

    nothing : (p : ℕ) → get_or (none ∷ none ∷ none ∷ none ∷ []) p none ≡ none
    nothing zero = refl
    nothing (suc zero) = refl
    nothing (suc (suc zero)) = refl
    nothing (suc (suc (suc zero))) = refl
    nothing (suc (suc (suc (suc p)))) = refl
