-- What stands at the place of a box at rest after the round.
use Rattle.std.proofs.Common.{◌≡◌, ℕ, ◌+◌, ◌<◌, ◌≤◌, Bool, true, false, cond, eqb, ltb, List, length, map, set, get_or, is_some, Some, None, option_map, refl, sym, ap, ◌∙◌, below_more, arith}
use Rattle.std.specs.List.{slice_get}
use Rattle.std.proofs.lemmas.Bool.Decides.{nat_tests}
use Rattle.std.proofs.lemmas.List.{length-map}
use Rattle.std.proofs.lemmas.Option.{slice_get-map, slice_get_past, slice_get_read}
use Rattle.sets.specs.declared.set.BoxSet.{BoxSet}
use Rattle.sets.specs.Masks.{member}
use Rattle.boxes.specs.declared.states.Resting.{Resting}
use Rattle.boxes.specs.ByFrames.{outcome_by_frames}
use Rattle.wire.specs.WireState.{WireState, IsWellFormed, falling_set}
use Rattle.machine.specs.declared.place.Place.{Place}
use Rattle.machine.specs.Places.{PlaceState, at_rest, down, place_state, state_of_outcome}
use Rattle.base.specs.Numbered.{by_number}
use Rattle.base.proofs.NumberedLemmas.{list_ext, get-by_number, get-set}
use Rattle.machine.specs.State.{State}
use Rattle.machine.specs.RoundCall.{frames_heard_by, round_to_come, place_after}
use Rattle.ringing.specs.Exchanges.{InRound}
use Rattle.ringing.proofs.WireSets.{falling_member}
use Rattle.proposals.specs.Kinds.{Kind}

module _ {K : Type 0} (kind : Kind K) (w : WireState) (well : IsWellFormed w) (s : State K)
    (r : InRound kind w s) (b : Resting K) (p : ℕ) (at : slice_get s.row p ≡ Some (at_rest b.held)) where
  pub number_is : b.held.number.0 ≡ p
  number_is = (r.goes.own p b.held at).0

  pub own_place : slice_get s.row b.held.number.0 ≡ Some (at_rest b.held)
  own_place = ap (slice_get s.row) number_is ∙ at

  -- by the set of the boxes that are falling
  module _ (falling : BoxSet) (is : falling ≡ falling_set w) where
    lost_is : member falling b.held.number.0 ≡ is_some (s.wire.lost p)
    lost_is =
        let f = falling_member w well falling is b.held.number.0 (omega (arith, b.placed, b.few)) in
        f.0 ∙ (λ j. is_some ((sym r.wire j).lost (number_is j)))

    pub falls_down : member falling b.held.number.0 ≡ true → down (round_to_come s) ≡ place_after kind s p (at_rest b.held)
    falls_down e = ap (λ t. cond t (down (round_to_come s)) (state_of_outcome (outcome_by_frames kind b.held (frames_heard_by s p)))) (sym (sym lost_is ∙ e))

    pub stays_up : member falling b.held.number.0 ≡ false
        → state_of_outcome (outcome_by_frames kind b.held (frames_heard_by s b.held.number.0)) ≡ place_after kind s p (at_rest b.held)
    stays_up e = ap (λ i. state_of_outcome (outcome_by_frames kind b.held (frames_heard_by s i))) number_is ∙ ap (λ t. cond t (down (round_to_come s)) (state_of_outcome (outcome_by_frames kind b.held (frames_heard_by s p)))) (sym (sym lost_is ∙ e))

-- ---- place after place

module _ {K : Type 0} (f : ℕ → PlaceState K → PlaceState K) (old : List (PlaceState K)) where
  -- the places below i are as f makes them, and the others as they were
  abbrev pub Done : ℕ → List (Place K) → Type 0
  Done i row = ((j : ℕ) → j < i → slice_get (map place_state row) j ≡ option_map (f j) (slice_get old j)) × ((j : ℕ) → i ≤ j → slice_get (map place_state row) j ≡ slice_get old j)

  pub done_more : (row : List (Place K)) (i : ℕ) (x : Place K) (y : PlaceState K) → i < length row → slice_get old i ≡ Some y
      → place_state x ≡ f i y → Done i row → Done (i + 1) (set row i x)
  done_more row i x y l at is (below, above) = (
    below_more (λ j. slice_get (map place_state (set row i x)) j ≡ option_map (f j) (slice_get old j)) i
        (λ j m. changed j ∙ ap (λ t. option_map place_state (cond t (Some x) (slice_get row j))) (let e : eqb j i ≡ false = grind (arith, nat_tests) in e) ∙ sym (slice_get-map place_state row j) ∙ below j m)
        (changed i ∙ ap (λ t. option_map place_state (cond t (Some x) (slice_get row i))) (let e : eqb i i ≡ true = grind (arith, nat_tests) in e) ∙ ap Some is ∙ ap (option_map (f i)) (sym at)),
    λ j m. changed j ∙ ap (λ t. option_map place_state (cond t (Some x) (slice_get row j))) (let e : eqb j i ≡ false = grind (arith, nat_tests) in e) ∙ sym (slice_get-map place_state row j) ∙ above j (omega arith),
  )
    where
      changed : (k : ℕ) → slice_get (map place_state (set row i x)) k ≡ option_map place_state (cond (eqb k i) (Some x) (slice_get row k))
      changed k = slice_get-map place_state (set row i x) k ∙ ap (option_map place_state) (get-set row i k x l)

  pub done_all : (row : List (Place K)) (n : ℕ) → length row ≤ n → Done n row → map place_state row ≡ by_number f old
  done_all row n l (below, above) = list_ext (map place_state row) (by_number f old) (λ j. by j (ltb j n) refl ∙ sym (get-by_number f old j))
    where
      by : (j : ℕ) (t : Bool) → ltb j n ≡ t → slice_get (map place_state row) j ≡ option_map (f j) (slice_get old j)
      by j true e = below j (grind (arith, nat_tests))
      by j false e =
          let none : slice_get (map place_state row) j ≡ None = slice_get_past (map place_state row) j (let s = length-map row place_state in grind (arith, nat_tests)) in
          none ∙ ap (option_map (f j)) (sym none ∙ above j (grind (arith, nat_tests)))

  -- what was read at the next place is what stood there
  pub read_next : (row : List (Place K)) (i : ℕ) (x : Place K) → i < length row → x ≡ get_or row i x → Done i row
      → slice_get old i ≡ Some (place_state (get_or row i x))
  read_next row i x l e (below, above) =
      sym (above i (omega arith)) ∙ slice_get-map place_state row i ∙ ap (option_map place_state) (slice_get_read row (length row) i x refl l e) ∙ ap (λ y. Some (place_state y)) e
