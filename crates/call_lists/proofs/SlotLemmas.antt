-- The orders in hand beside a row.
use Rattle.base.specs.declared.refused.Refused.{Refused}
use Rattle.std.specs.Bool.{⊤}
use Rattle.std.proofs.Common.{◌≡◌, ℕ, zero, suc, ◌<◌, Bool, true, false, cond, not, ◌&&◌, eqb, ◌⊎◌, List, [], ◌∷◌, length, map, set, get_or, Some, None, Ok, Err, Option, option_map, Result, sym, refl, ap, ◌∙◌, subst, inl, inr, ◌≤◌, arith}
use Rattle.std.specs.List.{slice_get}
use Rattle.std.proofs.lemmas.Bool.{cases_Bool, cases_lt, eqb-true}
use Rattle.std.proofs.lemmas.Bool.Decides.{nat_tests}
use Rattle.std.proofs.lemmas.List.{length-map, length-set, get_or_past, get_or-set_same, set-get_or}
use Rattle.std.proofs.lemmas.Option.{slice_get-map, slice_get_within, slice_get_past}
use Rattle.base.specs.declared.refusal.Refusal.{Refusal}
use Rattle.base.specs.declared.refusal.Refusal.TheVariants as refusal
use Rattle.sets.specs.declared.box_number.BoxNumber.{BoxNumber}
use Rattle.sets.specs.declared.round_number.RoundNumber.{RoundNumber}
use Rattle.machine.specs.declared.place.Blow.{Blow}
use Rattle.machine.specs.declared.place.Blow.TheVariants as blow
use Rattle.machine.specs.declared.place.Place.{Place}
use Rattle.machine.specs.declared.place.Rung.{Rung}
use Rattle.machine.specs.Places.{PlaceState, at_rest, down, rung, place_state, with_its_blow, is_undrawn, is_out}
use Rattle.machine.specs.State.{State}
use Rattle.machine.specs.RowCheck.{bad_row}
use Rattle.machine.specs.OrderCalls.{with_blow, on_draw, state_after_draw, is_out_in, on_report}
use Rattle.base.specs.Results.{or_kept}
use Rattle.base.specs.Numbered.{any_numbered}
use Rattle.base.proofs.NumberedLemmas.{list_ext, get_some, none_numbered, get-set, get-by_number, length-by_number, numbered_some, numbered_none}
use Rattle.machine.proofs.BlowsDoNotCount.{was_drawn, was_reported}
use Rattle.promise.specs.CallLog.{Answer}
use Rattle.promise.specs.CallSteps.{done_answer}
use Rattle.ringing.specs.declared.strike.StrikeOrder.{StrikeOrder}
use Rattle.ringing.specs.OrderAnswers.{handed_order, report_answer, report_reply}
use Rattle.call_lists.specs.OrdersInHand.{order_out, orders_out, is_order, slot_at, order_in_hand, orders_without, same_order, are_out, report_blow, orders_put_back, HasFreeSlot}

module _ {K : Type 0} (row : List (Place K)) (orders : List (Option StrikeOrder)) where
  pub short_not : eqb (length row) (length orders) ≡ false → false ≡ are_out (map place_state row) orders
  unfolding are_out
  short_not e = let l = length-map row place_state in grind (arith, nat_tests)

  -- one that is not the order of its box
  pub other_not : (p : ℕ) (x : Place K) → slice_get row p ≡ Some x → same_order (order_out p (place_state x)) (get_or orders p None) ≡ false
      → false ≡ are_out (map place_state row) orders
  unfolding are_out
  other_not p x at e =
      let n = numbered_some (λ p x. not (same_order (order_out p x) (get_or orders p None))) (map place_state row) p (place_state x) (slice_get-map place_state row p ∙ ap (option_map place_state) at) (ap not e) in
      grind arith

  -- each is
  pub all_are : length row ≡ length orders
      → ((p : ℕ) (x : Place K) → slice_get row p ≡ Some x → same_order (order_out p (place_state x)) (get_or orders p None) ≡ true)
      → true ≡ are_out (map place_state row) orders
  unfolding are_out
  all_are len fit =
      let l = length-map row place_state in
      let n = numbered_none (λ p x. not (same_order (order_out p x) (get_or orders p None))) (map place_state row) (λ p x at. by p x (slice_get row p) (λ y. fit p y) (sym (slice_get-map place_state row p) ∙ at)) in
      grind (arith, nat_tests)
    where
      by : (p : ℕ) (x : PlaceState K) (o : Option (Place K))
          → ((y : Place K) → o ≡ Some y → same_order (order_out p (place_state y)) (get_or orders p None) ≡ true)
          → option_map place_state o ≡ Some x
          → not (same_order (order_out p x) (get_or orders p None)) ≡ false
      by p x None f e = absurd (grind arith)
      by p x (Some y) f e = let same : place_state y ≡ x = cc in ap (λ z. not (same_order (order_out p z) (get_or orders p None))) (sym same) ∙ ap not (f y refl)

set-set : {X : Type 0} (xs : List X) (i : ℕ) (x y : X) → set (set xs i x) i y ≡ set xs i y
set-set [] i x y = refl
set-set (z ∷ zs) zero x y = refl
set-set (z ∷ zs) (suc i) x y = ap (λ l. z ∷ l) (set-set zs i x y)

-- ---- the orders of a row, slot by slot

-- the order that is out at a place, if there is one
abbrev pub out_here : {K : Type 0} → ℕ → Option (PlaceState K) → Option StrikeOrder
out_here p None = None
out_here p (Some x) = order_out p x

module _ {K : Type 0} (row : List (PlaceState K)) where
  pub orders_length : length (orders_out row) ≡ length row
  unfolding orders_out
  orders_length = length-by_number order_out row

  pub orders_get : (p : ℕ) → slice_get (orders_out row) p ≡ option_map (order_out p) (slice_get row p)
  unfolding orders_out
  orders_get p = get-by_number order_out row p

  -- a slot
  pub slot_is : (p : ℕ) → get_or (orders_out row) p None ≡ out_here p (slice_get row p)
  slot_is p = get-slice (orders_out row) p ∙ ap held (orders_get p) ∙ by (slice_get row p)
    where
      held : Option (Option StrikeOrder) → Option StrikeOrder
      held None = None
      held (Some o) = o

      get-slice : (xs : List (Option StrikeOrder)) (p : ℕ) → get_or xs p None ≡ held (slice_get xs p)
      get-slice [] p = refl
      get-slice (x ∷ xs) zero = refl
      get-slice (x ∷ xs) (suc p) = get-slice xs p

      by : (o : Option (PlaceState K)) → held (option_map (order_out p) o) ≡ out_here p o
      by None = refl
      by (Some x) = refl

-- a slot that is written, as the blow of its box becomes b
module _ {K : Type 0} (s : State K) (p : ℕ) (b : Blow) (x : Rung K) (there : slice_get s.row p ≡ Some (rung x)) where
  abbrev f : ℕ → PlaceState K → PlaceState K
  f q y = cond (eqb q p) (with_its_blow b y) y

  pub slot_set : set (orders_out s.row) p (order_out p (rung (record x { blow = b }))) ≡ orders_out (with_blow b p s).row
  slot_set = list_ext _ _ (λ q.
      get-set (orders_out s.row) p q (order_out p (rung (record x { blow = b }))) (let l = slice_get_within s.row p (rung x) there in omega (arith, l, orders_length s.row))
      ∙ ap (cond (eqb q p) (Some (order_out p (rung (record x { blow = b }))))) (orders_get s.row q)
      ∙ by q (cases_Bool (eqb q p))
      ∙ sym (orders_get (with_blow b p s).row q ∙ ap (option_map (order_out q)) (get-by_number f s.row q)))
    where
      same : (q : ℕ) (o : Option (PlaceState K)) → option_map (order_out q) o ≡ option_map (order_out q) (option_map (λ y. y) o)
      same q None = refl
      same q (Some y) = refl

      by : (q : ℕ) → (eqb q p ≡ true) ⊎ (eqb q p ≡ false)
          → cond (eqb q p) (Some (order_out p (rung (record x { blow = b })))) (option_map (order_out q) (slice_get s.row q))
          ≡ option_map (order_out q) (option_map (f q) (slice_get s.row q))
      by q (inl e) =
          let own = eqb-true q p e in
          let at : slice_get s.row q ≡ Some (rung x) = ap (slice_get s.row) own ∙ there in
          ap (λ t. cond t (Some (order_out p (rung (record x { blow = b })))) (option_map (order_out q) (slice_get s.row q))) e
          ∙ ap (λ k. Some (order_out k (rung (record x { blow = b })))) (sym own)
          ∙ sym ((λ j. option_map (order_out q) (option_map (λ y. cond (e j) (with_its_blow b y) y) (at j))))
      by q (inr e) =
          ap (λ t. cond t (Some (order_out p (rung (record x { blow = b })))) (option_map (order_out q) (slice_get s.row q))) e ∙ same q (slice_get s.row q)
          ∙ ap (λ t. option_map (order_out q) (option_map (λ y. cond t (with_its_blow b y) y) (slice_get s.row q))) (sym e)

-- ---- an order that was drawn

undrawn_in : (b : Blow) → is_undrawn b ≡ true → is_out b ≡ false
undrawn_in blow.Undrawn e = refl
undrawn_in blow.Out e = absurd (grind arith)
undrawn_in blow.Struck e = absurd (grind arith)
undrawn_in blow.Missed e = absurd (grind arith)

pub record Handed {K : Type 0} (s : State K) (p : BoxNumber) (o : StrikeOrder) : Type 0 where
  pub placed : p.0 < length s.row
  pub free : get_or (orders_out s.row) p.0 None ≡ None
  pub put : set (orders_out s.row) p.0 (Some o) ≡ orders_out (or_kept s (state_after_draw (on_draw p s))).row

pub was_handed : {K : Type 0} (s : State K) (p : BoxNumber) (o : StrikeOrder) → Ok o ≡ handed_order p (on_draw p s) → Handed s p o
was_handed {K} s p o e = by (on_draw p s) refl e
  where
    by : (z : Result (RoundNumber × State K) Refusal) → on_draw p s ≡ z → Ok o ≡ handed_order p z → Handed s p o
    by (Err x) is e = absurd (grind arith)
    by (Ok (r, then)) is e =
        let d = was_drawn s p r then is in
        let own : o ≡ record { number = p; round = r } = cc in
        record {
          placed = slice_get_within s.row p.0 (rung d.x) d.there;
          free = slot_is s.row p.0 ∙ ap (out_here p.0) d.there ∙ ap (λ t. option_map (λ k. record { number = record { 0 = p.0 }; round = k }) (cond t (Some d.x.round) None)) (undrawn_in d.x.blow d.new);
          put =
              (λ j. set (orders_out s.row) p.0 (Some ((own ∙ (λ i. record { number = p; round = d.round i })) j)))
              ∙ slot_set s p.0 blow.Out d.x d.there ∙ ap (λ y. orders_out y.row) (sym d.is ∙ sym (ap (λ z. or_kept s (state_after_draw z)) is));
        }

-- ---- an order that is given back

module _ {K : Type 0} (s : State K) (p : BoxNumber) (r : RoundNumber) where
  -- one is in hand just if it is out
  in_hand_is : is_order p.0 r (slot_at (orders_out s.row) p) ≡ is_out_in r (slice_get s.row p.0)
  in_hand_is = ap (is_order p.0 r) (slot_is s.row p.0) ∙ by (slice_get s.row p.0)
    where
      by : (o : Option (PlaceState K)) → is_order p.0 r (out_here p.0 o) ≡ is_out_in r o
      by None = refl
      by (Some (at_rest b)) = refl
      by (Some (down f)) = refl
      by (Some (rung x)) = at (is_out x.blow)
        where
          at : (t : Bool)
              → is_order p.0 r (option_map (λ k. record { number = record { 0 = p.0 }; round = k }) (cond t (Some x.round) None))
              ≡ (t && eqb x.round.0 r.0)
          at true = let own : eqb p.0 p.0 ≡ true = grind (arith, nat_tests) in ap (λ t. t && eqb x.round.0 r.0) own
          at false = refl

  -- so what is taken is the order itself
  pub record Taken (o : StrikeOrder) : Type 0 where
    pub number : o.number ≡ p
    pub round : o.round ≡ r
    pub out : is_out_in r (slice_get s.row p.0) ≡ true
    pub slot : slot_at (orders_out s.row) p ≡ Some o
    pub rest : orders_without p r (orders_out s.row) ≡ set (orders_out s.row) p.0 None

  was_taken : (o : StrikeOrder) → Some o ≡ order_in_hand p r (orders_out s.row) → Taken o
  was_taken o e = by (slot_at (orders_out s.row) p) refl (cases_Bool (is_order p.0 r (slot_at (orders_out s.row) p)))
    where
      by : (x : Option StrikeOrder) → slot_at (orders_out s.row) p ≡ x
          → (is_order p.0 r (slot_at (orders_out s.row) p) ≡ true) ⊎ (is_order p.0 r (slot_at (orders_out s.row) p) ≡ false) → Taken o
      by x at (inr off) = absurd (let f : Some o ≡ None = e ∙ ap (λ t. cond t (slot_at (orders_out s.row) p) None) off in grind arith)
      by None at (inl is) = absurd (let f : is_order p.0 r None ≡ true = ap (is_order p.0 r) (sym at) ∙ is in grind arith)
      by (Some x) at (inl is) =
          let f : Some o ≡ Some x = e ∙ ap (λ t. cond t (slot_at (orders_out s.row) p) None) is ∙ at in
          let same : x ≡ o = cc in
          let k : (eqb o.number.0 p.0 && eqb o.round.0 r.0) ≡ true = ap (is_order p.0 r) (sym (at ∙ ap Some same)) ∙ is in
          let n : eqb o.number.0 p.0 ≡ true = grind arith in
          let m : eqb o.round.0 r.0 ≡ true = grind arith in
          record {
            number = λ j. record { 0 = eqb-true o.number.0 p.0 n j };
            round = λ j. record { 0 = eqb-true o.round.0 r.0 m j };
            out = sym in_hand_is ∙ is;
            slot = at ∙ ap Some same;
            rest = ap (λ t. set (orders_out s.row) p.0 (cond t None (slot_at (orders_out s.row) p))) is;
          }

  -- or nothing is, and the orders stay
  not_taken : None ≡ order_in_hand p r (orders_out s.row)
      → (is_out_in r (slice_get s.row p.0) ≡ false) × (orders_without p r (orders_out s.row) ≡ orders_out s.row)
  not_taken e = by (slot_at (orders_out s.row) p) refl (cases_Bool (is_order p.0 r (slot_at (orders_out s.row) p)))
    where
      by : (x : Option StrikeOrder) → slot_at (orders_out s.row) p ≡ x
          → (is_order p.0 r (slot_at (orders_out s.row) p) ≡ true) ⊎ (is_order p.0 r (slot_at (orders_out s.row) p) ≡ false)
          → (is_out_in r (slice_get s.row p.0) ≡ false) × (orders_without p r (orders_out s.row) ≡ orders_out s.row)
      by x at (inr off) = (sym in_hand_is ∙ off, ap (λ t. set (orders_out s.row) p.0 (cond t None (slot_at (orders_out s.row) p))) off ∙ set-get_or (orders_out s.row) p.0 None)
      by None at (inl is) = absurd (let f : is_order p.0 r None ≡ true = ap (is_order p.0 r) (sym at) ∙ is in grind arith)
      by (Some x) at (inl is) = absurd (let f : None ≡ Some x = e ∙ ap (λ t. cond t (slot_at (orders_out s.row) p) None) is ∙ at in grind arith)

  -- where it is not out, giving it back is refused, for the row first
  not_out : is_out_in r (slice_get s.row p.0) ≡ false → (b : Blow) → on_report b p r s ≡ Err (cond (bad_row s) refusal.Row refusal.Order)
  unfolding on_report
  not_out off b = grind (arith, off)

  module _ (o : StrikeOrder) (t : Taken o) where
    -- the blow is reported, and its slot is free
    place_in : p.0 < length (orders_out s.row)
    place_in = by (cases_lt p.0 (length (orders_out s.row)))
      where
        by : (p.0 < length (orders_out s.row)) ⊎ (length (orders_out s.row) ≤ p.0) → p.0 < length (orders_out s.row)
        by (inl l) = l
        by (inr m) = absurd (let f : None ≡ Some o = sym (get_or_past (orders_out s.row) p.0 None m) ∙ t.slot in grind arith)

    pub freed : (p.0 < length (set (orders_out s.row) p.0 None)) × (get_or (set (orders_out s.row) p.0 None) p.0 None ≡ None)
    freed = (omega (arith, place_in, length-set (orders_out s.row) p.0 None), get_or-set_same (orders_out s.row) p.0 None None place_in)

    -- or is put back
    pub again : set (set (orders_out s.row) p.0 None) p.0 (Some o) ≡ orders_out s.row
    again = set-set (orders_out s.row) p.0 None (Some o) ∙ ap (set (orders_out s.row) p.0) (sym t.slot) ∙ set-get_or (orders_out s.row) p.0 None

    pub after_report : (b : Blow) → is_out b ≡ false → set (orders_out s.row) p.0 None ≡ orders_out (with_blow b p.0 s).row
    after_report b new = by (slice_get s.row p.0) refl t.out
      where
        by : (x : Option (PlaceState K)) → slice_get s.row p.0 ≡ x → is_out_in r x ≡ true
            → set (orders_out s.row) p.0 None ≡ orders_out (with_blow b p.0 s).row
        by None at e = absurd (grind arith)
        by (Some (at_rest h)) at e = absurd (grind arith)
        by (Some (down f)) at e = absurd (grind arith)
        by (Some (rung x)) at e =
            ap (set (orders_out s.row) p.0) (sym (ap (λ t. option_map (λ k. record { number = record { 0 = p.0 }; round = k }) (cond t (Some x.round) None)) new))
            ∙ slot_set s p.0 b x at

    -- ---- what comes of the report

    free_slot : (b : Blow) → HasFreeSlot (report_answer o (on_report b o.number o.round s)) (orders_without p r (orders_out s.row))
    free_slot b = by (on_report b o.number o.round s)
      where
        by : (z : Result (State K) Refusal) → HasFreeSlot (report_answer o z) (orders_without p r (orders_out s.row))
        by (Ok then) = tt
        by (Err e) = subst (λ l. (o.number.0 < length l) × (get_or l o.number.0 None ≡ None)) (sym t.rest) (subst (λ k. (k < length (set (orders_out s.row) p.0 None)) × (get_or (set (orders_out s.row) p.0 None) k None ≡ None)) (ap (λ q. q.0) (sym t.number)) freed)

    same_report : (b : Blow) → on_report b o.number o.round s ≡ on_report b p r s
    same_report b = λ j. on_report b (t.number j) (t.round j) s

    settled : (b : Blow) → is_out b ≡ false
        → orders_put_back (report_answer o (on_report b o.number o.round s)) (orders_without p r (orders_out s.row))
        ≡ orders_out (or_kept s (on_report b o.number o.round s)).row
    settled b new =
        (λ j. orders_put_back (report_answer o (same_report b j)) (t.rest j)) ∙ by (on_report b p r s) refl ∙ (λ j. orders_out (or_kept s (sym (same_report b) j)).row)
      where
        by : (z : Result (State K) Refusal) → on_report b p r s ≡ z
            → orders_put_back (report_answer o z) (set (orders_out s.row) p.0 None) ≡ orders_out (or_kept s z).row
        by (Ok then) e = after_report b new ∙ ap (λ x. orders_out x.row) (sym (was_reported s p b r then e).is)
        by (Err e) is = ap (λ k. set (set (orders_out s.row) p.0 None) k (Some o)) (ap (λ q. q.0) t.number) ∙ again

-- the reply
reply_same : {K : Type 0} (o : StrikeOrder) (z : Result (State K) Refusal) → report_reply {K = K} (report_answer o z) ≡ done_answer z
reply_same o (Ok then) = refl
reply_same o (Err e) = refl

-- ---- the orders that are out

same_is : (o x : Option StrikeOrder) → same_order o x ≡ true → x ≡ o
same_is None None e = refl
same_is None (Some y) e = absurd (grind arith)
same_is (Some o) None e = absurd (grind arith)
same_is (Some o) (Some y) e =
    let n : eqb y.number.0 o.number.0 ≡ true = grind arith in
    let r : eqb y.round.0 o.round.0 ≡ true = grind arith in
    λ j. Some (record { number = record { 0 = eqb-true y.number.0 o.number.0 n j }; round = record { 0 = eqb-true y.round.0 o.round.0 r j } })

slot_get : (xs : List (Option StrikeOrder)) (p : ℕ) → p < length xs → slice_get xs p ≡ Some (get_or xs p None)
slot_get [] p l = absurd (omega arith)
slot_get (x ∷ xs) zero l = refl
slot_get (x ∷ xs) (suc p) l = slot_get xs p (omega arith)

pub out_all : {K : Type 0} (row : List (PlaceState K)) (orders : List (Option StrikeOrder)) → are_out row orders ≡ true
    → orders ≡ orders_out row
unfolding are_out
out_all {K} row orders e = list_ext orders (orders_out row) (λ p. at p (slice_get row p) refl ∙ sym (orders_get row p))
  where
    len : length row ≡ length orders
    len = grind (arith, nat_tests)

    none : any_numbered (λ p x. not (same_order (order_out p x) (get_or orders p None))) row ≡ false
    none = grind arith

    at : (p : ℕ) (o : Option (PlaceState K)) → slice_get row p ≡ o → slice_get orders p ≡ option_map (order_out p) o
    at p None is = slice_get_past orders p (by (cases_lt p (length row)))
      where
        by : (p < length row) ⊎ (length row ≤ p) → length orders ≤ p
        by (inr m) = omega (arith, m, len)
        by (inl l) = absurd (let s = get_some row p l in let f : Some s.0 ≡ None = sym s.1 ∙ is in grind arith)
    at p (Some x) is =
        let l = slice_get_within row p x is in
        let n : not (same_order (order_out p x) (get_or orders p None)) ≡ false = none_numbered (λ p x. not (same_order (order_out p x) (get_or orders p None))) row none p x is in
        slot_get orders p (omega (arith, l, len)) ∙ ap Some (same_is (order_out p x) (get_or orders p None) (grind arith))

pub told_new : (is_struck : Bool) → is_out (report_blow is_struck) ≡ false
told_new true = refl
told_new false = refl

-- ---- a report, clause by clause

module _ {K : Type 0} (s : State K) (p : BoxNumber) (r : RoundNumber) (b : Blow) (orders : List (Option StrikeOrder)) where
  -- of an order that was in hand
  module _ (o : StrikeOrder) (z : Result ⊤ (Refused StrikeOrder Refusal)) (told : z ≡ report_answer o (on_report b o.number o.round s)) (hand : orders ≡ orders_out s.row)
      (some : Some o ≡ order_in_hand p r orders) where
    taken : Taken s p r o
    taken = was_taken s p r o (some ∙ ap (order_in_hand p r) hand)

    pub is_free : (left : List (Option StrikeOrder)) → left ≡ orders_without p r orders → HasFreeSlot z left
    is_free left rest = subst (λ x. HasFreeSlot x left) (sym told) (subst (HasFreeSlot _) (sym (rest ∙ ap (orders_without p r) hand)) (free_slot s p r o taken b))

    pub answer_is : (y : Answer K) → y ≡ report_reply z → y ≡ done_answer (on_report b p r s)
    answer_is y e = e ∙ ap report_reply told ∙ reply_same o _ ∙ ap done_answer (same_report s p r o taken b)

    module _ (then : State K) (end : then ≡ or_kept s (on_report b o.number o.round s)) where
      pub state_is : then ≡ or_kept s (on_report b p r s)
      state_is = end ∙ ap (or_kept s) (same_report s p r o taken b)

      pub orders_are : (left put : List (Option StrikeOrder)) → is_out b ≡ false → left ≡ orders_without p r orders
          → put ≡ orders_put_back z left → put ≡ orders_out then.row
      orders_are left put new rest e =
          e ∙ (λ j. orders_put_back (told j) ((rest ∙ ap (orders_without p r) hand) j)) ∙ settled s p r o taken b new ∙ ap (λ x. orders_out x.row) (sym end)

  -- of one that was not
  module _ (e : Refusal) (why : e ≡ cond (bad_row s) refusal.Row refusal.Order) (hand : orders ≡ orders_out s.row) (none : None ≡ order_in_hand p r orders) where
    refused_so : on_report b p r s ≡ Err e
    refused_so = not_out s p r (not_taken s p r (none ∙ ap (order_in_hand p r) hand)).0 b ∙ ap Err (sym why)

    pub refusal_is : Err e ≡ done_answer {K = K} (on_report b p r s)
    refusal_is = sym (ap done_answer refused_so)

    pub state_stays : s ≡ or_kept s (on_report b p r s)
    state_stays = sym (ap (or_kept s) refused_so)

    pub orders_stay : (left : List (Option StrikeOrder)) → left ≡ orders_without p r orders → left ≡ orders_out s.row
    orders_stay left rest = rest ∙ ap (orders_without p r) hand ∙ (not_taken s p r (none ∙ ap (order_in_hand p r) hand)).1
