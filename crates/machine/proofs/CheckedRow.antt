-- A row that is not refused.
use Rattle.std.specs.List.{list_any, slice_get}
use Rattle.std.proofs.Common.{◌≡◌, ℕ, ◌<◌, ◌≤◌, true, false, ◌&&◌, List, [], ◌∷◌, length, map, Some, None, Option, option_map, sym, refl, ap, ◌∙◌, arith}
use Rattle.std.proofs.lemmas.Bool.Decides.{nat_tests}
use Rattle.std.proofs.lemmas.Option.{slice_get-map, slice_get_within}
use Rattle.base.specs.Counts.{any}
use Rattle.base.proofs.CountLemmas.{any_none}
use Rattle.base.proofs.NumberedLemmas.{none_numbered}
use Rattle.sets.specs.Masks.{member}
use Rattle.sets.proofs.MemberLemmas.{member_below}
use Rattle.boxes.specs.declared.states.Held.{Held}
use Rattle.boxes.specs.declared.states.Resting.{Resting}
use Rattle.machine.specs.declared.place.Place.{Place}
use Rattle.machine.specs.declared.place.Place.TheVariants as place
use Rattle.machine.specs.Places.{PlaceState, at_rest, place_state}
use Rattle.machine.specs.State.{State, gone_count, has_rung}
use Rattle.machine.specs.RowCheck.{is_misplaced, bad_row}

-- whether a box rings, by the places or by what stands in them
pub over_is : {K : Type 0} (row : List (Place K)) → list_any has_rung (map place_state row) ≡ list_any (λ x. has_rung (place_state x)) row
over_is [] = refl
over_is (x ∷ xs) = let more = over_is xs in grind arith

-- what is at rest at a place is a box at rest
pub box_of : {K : Type 0} (x : Place K) (b : Held K) → place_state x ≡ at_rest b → (a : Resting K) × (a.held ≡ b)
box_of (place.Resting a) b e = (a, cc)
box_of (place.Down r) b e = absurd (grind arith)
box_of (place.Rung r) b e = absurd (grind arith)

-- what a checked row has at rest at place p
pub record Rests {K : Type 0} (s : State K) (p : ℕ) (b : Held K) : Type 0 where
  pub box : (a : Resting K) × (a.held ≡ b)
  pub placed : p < s.wire.n
  pub is_up : member s.wire.up p ≡ true
  pub number : b.number.0 ≡ p
  pub n : b.n ≡ s.wire.n
  pub t : b.t ≡ s.t
  pub closed : b.closed ≡ s.closed
  pub misses : (q : ℕ) → member b.missing q ≡ true → (q < s.wire.n) × (member s.wire.up q ≡ false)

module _ {K : Type 0} (s : State K) (row : List (Place K)) (is : s.row ≡ map place_state row) (good : bad_row s ≡ false) where
  pub places : length s.row ≡ s.wire.n
  unfolding bad_row
  places = grind (arith, nat_tests)

  pub few_gone : gone_count s.wire ≤ s.t
  unfolding bad_row
  few_gone = grind (arith, nat_tests)

  pub fits : (p : ℕ) (x : PlaceState K) → slice_get s.row p ≡ Some x → is_misplaced s p x ≡ false
  unfolding bad_row
  fits p x at = none_numbered (is_misplaced s) s.row (grind arith) p x at

  pub box_at : (p : ℕ) (b : Held K) → slice_get s.row p ≡ Some (at_rest b) → (a : Resting K) × (a.held ≡ b)
  box_at p b at = by (slice_get row p) (sym (slice_get-map place_state row p) ∙ ap (λ r. slice_get r p) (sym is) ∙ at)
    where
      by : (o : Option (Place K)) → option_map place_state o ≡ Some (at_rest b) → (a : Resting K) × (a.held ≡ b)
      by None e = absurd (grind arith)
      by (Some x) e = box_of x b cc

  bounded : (p : ℕ) (b : Held K) → slice_get s.row p ≡ Some (at_rest b) → (q : ℕ) → member b.missing q ≡ true → (q < b.n) × (b.n ≤ 32)
  bounded p b at q m = by (box_at p b at)
    where
      by : (a : Resting K) × (a.held ≡ b) → (q < b.n) × (b.n ≤ 32)
      by (a, e) =
          let l = member_below a.held.n a.held.missing q a.within (ap (λ h. member h.missing q) e ∙ m) in
          let same = ap (λ h. h.n) e in
          (omega (arith, l), omega (arith, a.few))

  pub rests_at : (p : ℕ) (b : Held K) → slice_get s.row p ≡ Some (at_rest b) → Rests s p b
  rests_at p b at =
      let f : is_misplaced s p (at_rest b) ≡ false = fits p (at_rest b) at in
      let a = box_at p b at in
      let l = slice_get_within s.row p (at_rest b) at in
      let none : any (λ q. member b.missing q && member s.wire.up q) 32 ≡ false = grind arith in
      record {
        box = a;
        placed = omega (arith, places);
        is_up = grind arith;
        number = grind (arith, nat_tests);
        n = grind (arith, nat_tests);
        t = grind (arith, nat_tests);
        closed = grind (arith, nat_tests);
        misses = λ q m. by q m (grind (arith, nat_tests)) (any_none (λ q. member b.missing q && member s.wire.up q) 32 none q);
      }
    where
      by : (q : ℕ) → member b.missing q ≡ true → b.n ≡ s.wire.n → (q < 32 → (member b.missing q && member s.wire.up q) ≡ false)
          → (q < s.wire.n) × (member s.wire.up q ≡ false)
      by q m n f =
          let l = bounded p b at q m in
          let u = f (omega (arith, l.0, l.1)) in
          (omega (arith, l.0, n), grind arith)
