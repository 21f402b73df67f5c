-- Each strike order is handed out once and given back once, in any list of calls on any row.
use Rattle.std.specs.List.{slice_get}
use Rattle.std.specs.Result.{result_map_both}
use Rattle.std.proofs.Common.{◌≡◌, ℕ, ◌+◌, ◌≤◌, Bool, true, false, cond, not, ◌&&◌, eqb, ◌⊎◌, List, [], ◌∷◌, Some, None, Ok, Err, Option, option_map, Result, is_some, sym, refl, ap, ◌∙◌, inl, inr, arith}
use Rattle.std.proofs.lemmas.Bool.{cases_Bool, eqb-true}
use Rattle.std.proofs.lemmas.Bool.Decides.{nat_tests}
use Rattle.base.specs.declared.refusal.Refusal.{Refusal}
use Rattle.base.specs.Results.{or_kept}
use Rattle.base.proofs.NumberedLemmas.{get-by_number}
use Rattle.sets.specs.declared.box_number.BoxNumber.{BoxNumber}
use Rattle.sets.specs.declared.round_number.RoundNumber.{RoundNumber}
use Rattle.sets.specs.declared.set.BoxSet.{BoxSet}
use Rattle.proposals.specs.Kinds.{Kind}
use Rattle.machine.specs.Boxes.{first_held}
use Rattle.machine.specs.BoxRounds.{Outcome, rests, rings}
use Rattle.machine.specs.ByFrames.{outcome_by_frames}
use Rattle.machine.specs.WireState.{WireState}
use Rattle.machine.specs.declared.place.Blow.{Blow}
use Rattle.machine.specs.declared.place.Blow.TheVariants as blow
use Rattle.machine.specs.Places.{PlaceState, at_rest, down, rung, state_of_outcome, with_its_blow, is_undrawn, is_out}
use Rattle.machine.specs.State.{State}
use Rattle.machine.specs.MakeCall.{on_make}
use Rattle.machine.specs.FallCall.{on_fall}
use Rattle.machine.specs.RoundCall.{on_round, place_after, round_to_come, frames_heard_by}
use Rattle.machine.specs.OrderCalls.{with_blow, on_draw, state_after_draw, is_out_in, on_report}
use Rattle.machine.proofs.BlowsDoNotCount.{Undrawn, Out, was_drawn, was_reported}
use Rattle.promise.specs.declared.request.Request.{Request}
use Rattle.promise.specs.declared.request.Request.TheVariants as request
use Rattle.promise.specs.declared.request.Reply.TheVariants as reply
use Rattle.promise.specs.CallLog.{Answer}
use Rattle.promise.specs.CallSteps.{done_answer, answer_to, state_after_call, answers_to}
use Rattle.promise.specs.Promise.{is_accepted_as, count_accepted, draws, is_for, hands_out, gives_back, OrdersOnce}
use Rattle.promise.proofs.FirstState.{checked}
use Rattle.promise.proofs.CallKeepsLog.{was_played}

-- a box that rings has an order drawn; that of round k is out
abbrev is_taken : {K : Type 0} → Option (PlaceState K) → Bool
is_taken None = false
is_taken (Some (at_rest b)) = false
is_taken (Some (down r)) = false
is_taken (Some (rung x)) = not (is_undrawn x.blow)

abbrev outs : {K : Type 0} → ℕ → Option (PlaceState K) → Bool
outs k o = is_out_in (record { 0 = k }) o

-- a call moves what stands at place p: what is handed out was not yet, and what is given back was out
record Moves {K : Type 0} (p : ℕ) (c : Request) (a : Answer K) (o then : Option (PlaceState K)) : Type 0 where
  draw : cond (is_accepted_as (draws p) c a) 1 0 + cond (is_taken then) 0 1 ≤ cond (is_taken o) 0 1
  back : (k : ℕ) → cond (is_accepted_as (gives_back p k) c a) 1 0 + cond (outs k then) 1 0
      ≤ cond (is_accepted_as (hands_out p k) c a) 1 0 + cond (outs k o) 1 0

-- nothing moves
abbrev Idle : {K : Type 0} → ℕ → Request → Answer K → Type 0
Idle p c a = (is_accepted_as (draws p) c a ≡ false)
    × ((k : ℕ) → (is_accepted_as (gives_back p k) c a ≡ false) × (is_accepted_as (hands_out p k) c a ≡ false))

stays : {K : Type 0} (p : ℕ) (c : Request) (a : Answer K) (o then : Option (PlaceState K)) → is_taken then ≡ is_taken o
    → ((k : ℕ) → outs k then ≡ outs k o) → Idle p c a → Moves p c a o then
stays p c a o then t u i = record { draw = grind (arith, i.0, t); back = λ k. let e = i.1 k in let f = u k in grind (arith, e.0, e.1, f) }

unmoved : {K : Type 0} (p : ℕ) (c : Request) (a : Answer K) (o : Option (PlaceState K)) → Idle p c a → Moves p c a o o
unmoved p c a o = stays p c a o o refl (λ k. refl)

refused : (K : Type 0) (p : ℕ) (c : Request) (e : Refusal) → Idle {K = K} p c (Err e)
refused K p c e = (refl, λ k. (refl, refl))

-- the same place twice, or another
own_place : (p q : ℕ) → (eqb p q ≡ true) → (eqb q p ≡ true) × (p ≡ q)
own_place p q e = let s = eqb-true p q e in (grind (arith, nat_tests), s)

other_place : (p q : ℕ) → (eqb p q ≡ false) → eqb q p ≡ false
other_place p q e = grind (arith, nat_tests)

module _ {K : Type 0} (kind : Kind K) (s : State K) (p : ℕ) where
  abbrev o : Option (PlaceState K)
  o = slice_get s.row p

  abbrev place : State K → Option (PlaceState K)
  place x = slice_get x.row p

  blow_at : (b : Blow) (q : ℕ) → place (with_blow b q s) ≡ option_map (λ x. cond (eqb p q) (with_its_blow b x) x) o
  blow_at b q = get-by_number (λ k x. cond (eqb k q) (with_its_blow b x) x) s.row p

  -- another blow leaves the place
  other_blow : (b : Blow) (q : ℕ) → eqb p q ≡ false → place (with_blow b q s) ≡ o
  other_blow b q e = blow_at b q ∙ ap (λ t. option_map (λ x. cond t (with_its_blow b x) x) o) e ∙ by o
    where
      by : (o : Option (PlaceState K)) → option_map (λ x. x) o ≡ o
      by None = refl
      by (Some x) = refl

  -- ---- falls and rounds

  fall_row : (q : BoxNumber) (lost : BoxSet) → (or_kept s (on_fall q lost s)).row ≡ s.row
  unfolding on_fall
  fall_row q lost = grind arith

  after_taken : (x : Option (PlaceState K)) → is_taken (option_map (place_after kind s p) x) ≡ is_taken x
  after_taken None = refl
  after_taken (Some (at_rest b)) = by (is_some (s.wire.lost p)) (outcome_by_frames kind b (frames_heard_by s p))
    where
      by : (t : Bool) (x : Outcome K) → is_taken (Some (cond t (down (round_to_come s)) (state_of_outcome x))) ≡ false
      by true x = refl
      by false (rests b) = refl
      by false (rings r v) = refl
  after_taken (Some (down r)) = refl
  after_taken (Some (rung x)) = refl

  after_outs : (k : ℕ) (x : Option (PlaceState K)) → outs k (option_map (place_after kind s p) x) ≡ outs k x
  after_outs k None = refl
  after_outs k (Some (at_rest b)) = by (is_some (s.wire.lost p)) (outcome_by_frames kind b (frames_heard_by s p))
    where
      by : (t : Bool) (x : Outcome K) → outs k (Some (cond t (down (round_to_come s)) (state_of_outcome x))) ≡ false
      by true x = refl
      by false (rests b) = refl
      by false (rings r v) = refl
  after_outs k (Some (down r)) = refl
  after_outs k (Some (rung x)) = refl

  -- ---- each call

  give : (b : Blow) (c : Request) (q : BoxNumber) (r : RoundNumber) → is_out b ≡ false → is_undrawn b ≡ false
      → ((k : ℕ) → is_accepted_as {K = K} (gives_back p k) c (Ok reply.Done) ≡ (eqb q.0 p && eqb r.0 k))
      → is_accepted_as {K = K} (draws p) c (Ok reply.Done) ≡ false
      → ((k : ℕ) → is_accepted_as {K = K} (hands_out p k) c (Ok reply.Done) ≡ false)
      → (z : Result (State K) Refusal) → on_report b q r s ≡ z → Moves p c (done_answer z) o (place (or_kept s z))
  give b c q r in_hand taken gives no_draw no_hand (Err e) is = unmoved p c (Err e) o (refused K p c e)
  give b c q r in_hand taken gives no_draw no_hand (Ok then) is = by (was_reported s q b r then is) (cases_Bool (eqb p q.0))
    where
      by : Out s b q.0 r then → (eqb p q.0 ≡ true) ⊎ (eqb p q.0 ≡ false) → Moves p c (Ok reply.Done) o (place then)
      by d (inr e) = stays p c (Ok reply.Done) o (place then) (ap is_taken (ap place d.is ∙ other_blow b q.0 e)) (λ k. ap (outs k) (ap place d.is ∙ other_blow b q.0 e))
          (no_draw, λ k. let g = gives k in let f = other_place p q.0 e in (grind (arith, f), no_hand k))
      by d (inl e) =
          let w = own_place p q.0 e in
          let there : o ≡ Some (rung d.x) = ap (slice_get s.row) w.1 ∙ d.there in
          let then_there : place then ≡ Some (rung (record d.x { blow = b })) = ap place d.is ∙ blow_at b q.0 ∙ (λ j. option_map (λ x. cond (e j) (with_its_blow b x) x) (there j)) in
          record {
            draw = let t : is_taken o ≡ true = (let u = d.out in ap is_taken there ∙ out_taken d.x.blow u) in
                let v : is_taken (place then) ≡ true = ap is_taken then_there ∙ ap not taken in
                grind (arith, no_draw, t, v);
            back = λ k. let t : outs k o ≡ eqb r.0 k = ap (outs k) there ∙ (let u = d.out in let v = d.round in grind arith) in
                let v : outs k (place then) ≡ false = ap (outs k) then_there ∙ (grind arith) in
                let g : is_accepted_as {K = K} (gives_back p k) c (Ok reply.Done) ≡ eqb r.0 k = gives k ∙ ap (λ t. t && eqb r.0 k) w.0 in
                let h = no_hand k in
                grind (arith, t, v, g, h);
          }
        where
          out_taken : (b : Blow) → is_out b ≡ true → not (is_undrawn b) ≡ true
          out_taken blow.Undrawn e = absurd (grind arith)
          out_taken blow.Out e = refl
          out_taken blow.Struck e = refl
          out_taken blow.Missed e = refl

  hand : (q : BoxNumber) (z : Result (RoundNumber × State K) Refusal) → on_draw q s ≡ z
      → Moves p (request.Draw q) (result_map_both (λ x. reply.Drawn x.0) (λ e. e) z) o (place (or_kept s (state_after_draw z)))
  hand q (Err e) is = unmoved p (request.Draw q) (Err e) o (refused K p (request.Draw q) e)
  hand q (Ok (r, then)) is = by (was_drawn s q r then is) (cases_Bool (eqb p q.0))
    where
      by : Undrawn s q.0 r then → (eqb p q.0 ≡ true) ⊎ (eqb p q.0 ≡ false) → Moves p (request.Draw q) (Ok (reply.Drawn r)) o (place then)
      by d (inr e) = let f = other_place p q.0 e in
          stays p (request.Draw q) (Ok (reply.Drawn r)) o (place then) (ap is_taken (ap place d.is ∙ other_blow blow.Out q.0 e)) (λ k. ap (outs k) (ap place d.is ∙ other_blow blow.Out q.0 e))
          (f, λ k. (refl, ap (λ t. t && eqb r.0 k) f))
      by d (inl e) =
          let w = own_place p q.0 e in
          let there : o ≡ Some (rung d.x) = ap (slice_get s.row) w.1 ∙ d.there in
          let then_there : place then ≡ Some (rung (record d.x { blow = blow.Out })) = ap place d.is ∙ blow_at blow.Out q.0 ∙ (λ j. option_map (λ x. cond (e j) (with_its_blow blow.Out x) x) (there j)) in
          record {
            draw = let t : is_taken o ≡ false = ap is_taken there ∙ ap not d.new in
                let v : is_taken (place then) ≡ true = ap is_taken then_there in
                let f = w.0 in
                grind (arith, t, v, f);
            back = λ k. let v : outs k (place then) ≡ eqb r.0 k = ap (outs k) then_there ∙ ap (λ x. eqb x.0 k) (sym d.round) in
                let f = w.0 in
                grind (arith, v, f);
          }

  moves : (c : Request) → Moves p c (answer_to kind c s) o (place (state_after_call kind c s))
  moves (request.Fall q lost) = by (on_fall q lost s) (ap (λ r. slice_get r p) (fall_row q lost))
    where
      by : (z : Result (State K) Refusal) → place (or_kept s z) ≡ o → Moves p (request.Fall q lost) (done_answer z) o (place (or_kept s z))
      by (Ok then) e = stays p (request.Fall q lost) (Ok reply.Done) o (place then) (ap is_taken e) (λ k. ap (outs k) e) (refl, λ k. (refl, refl))
      by (Err x) e = unmoved p (request.Fall q lost) (Err x) o (refused K p (request.Fall q lost) x)
  moves (request.Round room) = by (on_round kind room s) refl
    where
      by : (z : Result (State K) Refusal) → on_round kind room s ≡ z → Moves p (request.Round room) (done_answer z) o (place (or_kept s z))
      by (Err x) e = unmoved p (request.Round room) (Err x) o (refused K p (request.Round room) x)
      by (Ok then) e =
          let at : place then ≡ option_map (place_after kind s p) o = ap place (was_played kind room s then e).is ∙ get-by_number (place_after kind s) s.row p in
          stays p (request.Round room) (Ok reply.Done) o (place then) (ap is_taken at ∙ after_taken o) (λ k. ap (outs k) at ∙ after_outs k o) (refl, λ k. (refl, refl))
  moves (request.Ask q) = unmoved p (request.Ask q) (answer_to kind (request.Ask q) s) o (by (answer_to kind (request.Ask q) s))
    where
      by : (a : Answer K) → Idle p (request.Ask q) a
      by (Ok r) = (refl, λ k. (refl, refl))
      by (Err x) = refused K p (request.Ask q) x
  moves (request.Draw q) = hand q (on_draw q s) refl
  moves (request.Struck q r) = give blow.Struck (request.Struck q r) q r refl refl (λ k. refl) refl (λ k. refl) (on_report blow.Struck q r s) refl
  moves (request.Missed q r) = give blow.Missed (request.Missed q r) q r refl refl (λ k. refl) refl (λ k. refl) (on_report blow.Missed q r s) refl

module _ {K : Type 0} (kind : Kind K) (p : ℕ) where
  once : (calls : List Request) (s : State K)
      → (count_accepted (draws p) calls (answers_to kind calls s) ≤ cond (is_taken (slice_get s.row p)) 0 1)
      × ((k : ℕ) → count_accepted (gives_back p k) calls (answers_to kind calls s)
      ≤ count_accepted (hands_out p k) calls (answers_to kind calls s) + cond (outs k (slice_get s.row p)) 1 0)
  unfolding count_accepted answers_to
  once [] s = (omega arith, λ k. omega arith)
  once (c ∷ calls) s =
      let m = moves kind s p c in
      let ih = once calls (state_after_call kind c s) in
      (omega (arith, m.draw, ih.0), λ k. omega (arith, m.back k, ih.1 k))

-- in a row of a ringing that is made no order is out
none_out : {K : Type 0} (n t places : ℕ) (m : WireState) (proposals : List K) (s : State K) → on_make n t m places proposals ≡ Ok s
    → (p k : ℕ) → outs k (slice_get s.row p) ≡ false
none_out {K} n t places m proposals s made p k =
    ap (λ x. outs k (slice_get x.row p)) (checked n t places m proposals s made).is
    ∙ ap (outs k) (get-by_number (λ p v. at_rest (first_held (record { 0 = p }) n t v)) proposals p) ∙ by (slice_get proposals p)
  where
    by : (o : Option K) → outs k (option_map (λ v. at_rest (first_held (record { 0 = p }) n t v)) o) ≡ false
    by None = refl
    by (Some v) = refl

-- at most as many as were handed out are given back, and at most as many as were drawn are handed out
for_one : {K : Type 0} (p k : ℕ) (c : Request) (a : Answer K)
    → cond (is_accepted_as (hands_out p k) c a) 1 0 ≤ cond (is_accepted_as (draws p) c a) 1 0
for_one p k c (Err e) = omega arith
for_one p k c (Ok r) = by (draws p c r) (is_for k r)
  where
    by : (x y : Bool) → cond (x && y) 1 0 ≤ cond x 1 0
    by true true = omega arith
    by true false = omega arith
    by false y = omega arith

of_drawn : {K : Type 0} (p k : ℕ) (calls : List Request) (answers : List (Answer K))
    → count_accepted (hands_out p k) calls answers ≤ count_accepted (draws p) calls answers
unfolding count_accepted
of_drawn p k [] answers = omega arith
of_drawn p k (c ∷ calls) [] = omega arith
of_drawn p k (c ∷ calls) (a ∷ answers) = omega (arith, for_one p k c a, of_drawn p k calls answers)

pub orders_once : {K : Type 0} (kind : Kind K) (n t places : ℕ) (m : WireState) (proposals : List K) (s : State K)
    → on_make n t m places proposals ≡ Ok s → (calls : List Request) → OrdersOnce calls (answers_to kind calls s)
orders_once kind n t places m proposals s made calls = record {
  drawn = drawn_once;
  returned = λ p k. omega (arith, back p k, of_drawn p k calls (answers_to kind calls s), drawn_once p);
  was_drawn = back;
}
  where
    by : (p : ℕ) {m : ℕ} → m ≤ cond (is_taken (slice_get s.row p)) 0 1 → (t : Bool) → m ≤ 1
    by p l t = grind (arith, l)

    drawn_once : (p : ℕ) → count_accepted (draws p) calls (answers_to kind calls s) ≤ 1
    drawn_once p = by p (once kind p calls s).0 (is_taken (slice_get s.row p))

    back : (p k : ℕ)
        → count_accepted (gives_back p k) calls (answers_to kind calls s) ≤ count_accepted (hands_out p k) calls (answers_to kind calls s)
    back p k = let b = (once kind p calls s).1 k in let none = none_out n t places m proposals s made p k in grind (arith, b, none)
