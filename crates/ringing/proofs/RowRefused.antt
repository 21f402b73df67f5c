-- When a row is refused.
use Rattle.std.proofs.Common.{◌≡◌, ℕ, ◌<◌, ◌≤◌, Bool, true, false, not, ◌&&◌, eqb, ltb, List, length, map, Some, None, Option, option_map, refl, sym, ap, ◌∙◌, arith}
use Rattle.std.specs.List.{slice_get}
use Rattle.std.proofs.lemmas.Bool.Decides.{nat_tests}
use Rattle.std.proofs.lemmas.List.{length-map}
use Rattle.std.proofs.lemmas.Option.{slice_get-map}
use Rattle.sets.specs.declared.set.BoxSet.{BoxSet}
use Rattle.base.specs.Counts.{count}
use Rattle.sets.specs.Masks.{member, set_of}
use Rattle.sets.proofs.MemberLemmas.{company_count}
use Rattle.wire.specs.WireState.{WireState, IsWellFormed}
use Rattle.machine.specs.declared.place.Place.{Place}
use Rattle.machine.specs.Places.{PlaceState, place_state}
use Rattle.machine.specs.State.{State, is_gone, gone_count}
use Rattle.machine.specs.RowCheck.{is_misplaced, bad_row}
use Rattle.base.proofs.NumberedLemmas.{numbered_some, numbered_none}
use Rattle.ringing.specs.RingingStates.{state}
use Rattle.ringing.proofs.WireSets.{few}

-- what stands at a place
pub shown_at : {K : Type 0} (row : List (Place K)) (p : ℕ) → slice_get (map place_state row) p ≡ option_map place_state (slice_get row p)
shown_at row p = slice_get-map place_state row p

pub not_true : (a b : Bool) → a ≡ not b → a ≡ true → b ≡ false
not_true a b e is = grind arith

pub not_false : (a b : Bool) → a ≡ not b → a ≡ false → b ≡ true
not_false a b e is = grind arith

-- the set of the boxes that are down or falling has as many
pub gone_counted : (m : WireState) → IsWellFormed m → (s : BoxSet) → s ≡ set_of (λ q. ltb q m.n && is_gone m q)
    → count (member s) 32 ≡ gone_count m
gone_counted m w s e = let f = few m w in ap (λ x. count (member x) 32) e ∙ company_count m.n (is_gone m) (omega arith)

module _ {K : Type 0} (m : WireState) (t closed : ℕ) (row : List (Place K)) where
  abbrev s : State K
  s = state m t closed row

  length_same : length s.row ≡ length row
  length_same = length-map row place_state

  pub short_bad : eqb (length row) m.n ≡ false → bad_row s ≡ true
  unfolding bad_row
  short_bad e = let l = length_same in grind (arith, nat_tests)

  pub gone_bad : t < gone_count m → bad_row s ≡ true
  unfolding bad_row
  gone_bad l = grind (arith, nat_tests)

  pub place_bad : (p : ℕ) (x : Place K) → slice_get row p ≡ Some x → is_misplaced s p (place_state x) ≡ true → bad_row s ≡ true
  unfolding bad_row
  place_bad p x at e =
      let n = numbered_some (is_misplaced s) s.row p (place_state x) (slice_get-map place_state row p ∙ ap (option_map place_state) at) e in
      grind arith

  pub row_good : length row ≡ m.n → gone_count m ≤ t
      → ((p : ℕ) (x : Place K) → slice_get row p ≡ Some x → is_misplaced s p (place_state x) ≡ false) → bad_row s ≡ false
  unfolding bad_row
  row_good len few fits =
      let l = length_same in
      let n = numbered_none (is_misplaced s) s.row (λ p x at. by p x (slice_get row p) (λ y. fits p y) (sym (slice_get-map place_state row p) ∙ at)) in
      grind (arith, nat_tests)
    where
      by : (p : ℕ) (x : PlaceState K) (o : Option (Place K)) → ((y : Place K) → o ≡ Some y → is_misplaced s p (place_state y) ≡ false)
          → option_map place_state o ≡ Some x → is_misplaced s p x ≡ false
      by p x None f e = absurd (grind arith)
      by p x (Some y) f e = let same : place_state y ≡ x = cc in ap (is_misplaced s p) (sym same) ∙ f y refl
