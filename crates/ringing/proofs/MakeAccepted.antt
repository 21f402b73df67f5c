-- A ringing is made where the checks let it be: then each new box is one that there is.
use Rattle.std.proofs.Common.{◌≡◌, ℕ, cond, ◌+◌, ◌<◌, Bool, true, false, eqb, ltb, List, length, map, set, Some, IfOk, Ok, Err, Option, Result, option_map, refl, sym, ap, ◌∙◌, below_more, arith}
use Rattle.std.specs.List.{slice_get}
use Rattle.std.proofs.lemmas.Bool.Decides.{nat_tests}
use Rattle.std.proofs.lemmas.List.{length-map}
use Rattle.std.proofs.lemmas.Option.{slice_get-map, slice_get_past}
use Rattle.base.specs.declared.refusal.Refusal.{Refusal}
use Rattle.sets.specs.Companies.{is_company}
use Rattle.boxes.specs.declared.states.Held.{Held}
use Rattle.boxes.specs.Boxes.{first_held, new_box}
use Rattle.wire.specs.WireState.{WireState}
use Rattle.machine.specs.declared.place.Place.{Place}
use Rattle.machine.specs.Places.{PlaceState, at_rest, place_state}
use Rattle.machine.specs.State.{State}
use Rattle.machine.specs.MakeCall.{on_make, first_row}
use Rattle.base.specs.Results.{answer}
use Rattle.base.proofs.NumberedLemmas.{list_ext, get-by_number, get-set}

-- what was checked
pub record Makes {K : Type 0} (n t : ℕ) (m : WireState) (places : ℕ) (proposals : List K) : Type 0 where
  pub size : is_company n t ≡ true
  pub places_are : places ≡ n
  pub given : length proposals ≡ n
  pub wire_n : m.n ≡ n
  pub made : on_make n t m places proposals ≡ Ok (record { wire = m; t = t; closed = 0; row = first_row n t proposals })

pub makes : {K : Type 0} (n t : ℕ) (m : WireState) (places : ℕ) (proposals : List K) → Ok tt ≡ answer (on_make n t m places proposals)
    → Makes n t m places proposals
unfolding on_make
makes n t m places proposals e = record {
  size = grind (arith, nat_tests);
  places_are = grind (arith, nat_tests);
  given = grind (arith, nat_tests);
  wire_n = grind (arith, nat_tests);
  made = grind (arith, nat_tests);
}

pub makes_not : {K : Type 0} (n t : ℕ) (m : WireState) (places : ℕ) (proposals : List K) (e : Refusal)
    → Err e ≡ answer (on_make n t m places proposals) → on_make n t m places proposals ≡ Err e
makes_not {K} n t m places proposals e is = by (on_make n t m places proposals) is
  where
    by : (r : Result (State K) Refusal) → Err e ≡ answer r → r ≡ Err e
    by (Ok s) is = absurd (grind arith)
    by (Err x) is = cc

-- a box of the company is made
pub box_made : {K : Type 0} (n t p : ℕ) (v : K) → is_company n t ≡ true → p < n
    → new_box (record { 0 = p }) n t v ≡ Ok (first_held (record { 0 = p }) n t v)
box_made n t p v kind l = grind (arith, nat_tests)

pub held_made : {K : Type 0} (n t p : ℕ) (v : K) (b : Held K) → is_company n t ≡ true → p < n → Ok b ≡ new_box (record { 0 = p }) n t v
    → b ≡ first_held (record { 0 = p }) n t v
held_made n t p v b kind l e = let m = box_made n t p v kind l in cc

pub never_refused : {K A : Type 0} (n t p : ℕ) (v : K) (e : Refusal) → is_company n t ≡ true → p < n
    → Err e ≡ new_box (record { 0 = p }) n t v → A
never_refused n t p v e kind l is = absurd (let m = box_made n t p v kind l in grind arith)

module _ {K : Type 0} (n t : ℕ) (proposals : List K) where
  -- what is to stand in a place
  abbrev pub first : ℕ → Option (PlaceState K)
  first k = option_map (λ v. at_rest (first_held (record { 0 = k }) n t v)) (slice_get proposals k)

  -- one place more is filled
  pub filled_more : (row : List (Place K)) (p : ℕ) (x : Place K) (v : K) → p < length row → slice_get proposals p ≡ Some v
      → place_state x ≡ at_rest (first_held (record { 0 = p }) n t v)
      → ((k : ℕ) → k < p → slice_get (map place_state row) k ≡ first k) → (k : ℕ) → k < p + 1
      → slice_get (map place_state (set row p x)) k ≡ first k
  filled_more row p x v l at is filled = below_more (λ k. slice_get (map place_state (set row p x)) k ≡ first k) p
      (λ k m. changed k ∙ ap (λ t. option_map place_state (cond t (Some x) (slice_get row k))) (let e : eqb k p ≡ false = grind (arith, nat_tests) in e) ∙ sym (slice_get-map place_state row k) ∙ filled k m)
      (changed p ∙ ap (λ t. option_map place_state (cond t (Some x) (slice_get row p))) (let e : eqb p p ≡ true = grind (arith, nat_tests) in e) ∙ ap Some is
      ∙ sym (ap (option_map (λ v. at_rest (first_held (record { 0 = p }) n t v))) at))
    where
      changed : (k : ℕ) → slice_get (map place_state (set row p x)) k ≡ option_map place_state (cond (eqb k p) (Some x) (slice_get row k))
      changed k = slice_get-map place_state (set row p x) k ∙ ap (option_map place_state) (get-set row p k x l)

  -- all are
  pub filled_all : (row : List (Place K)) → length row ≡ n → length proposals ≡ n
      → ((k : ℕ) → k < n → slice_get (map place_state row) k ≡ first k) → map place_state row ≡ first_row n t proposals
  filled_all row len given filled = list_ext (map place_state row) (first_row n t proposals) (λ k. by k (ltb k n) refl ∙ sym (get-by_number (λ p v. at_rest (first_held (record { 0 = p }) n t v)) proposals k))
    where
      by : (k : ℕ) (b : Bool) → ltb k n ≡ b → slice_get (map place_state row) k ≡ first k
      by k true e = filled k (grind (arith, nat_tests))
      by k false e =
          slice_get_past (map place_state row) k (let s = length-map row place_state in grind (arith, nat_tests))
          ∙ sym (ap (option_map (λ v. at_rest (first_held (record { 0 = k }) n t v))) (slice_get_past proposals k (grind (arith, nat_tests))))

pub if_made : {X E : Type 0} (P : X → Type 0) (r : Result X E) → ((x : X) → r ≡ Ok x → P x) → IfOk r P
if_made P (Ok x) f = f x refl
if_made P (Err e) f = tt
