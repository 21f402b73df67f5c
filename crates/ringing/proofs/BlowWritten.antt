-- The blow of a box that rings, as its place is written.
use Rattle.std.proofs.Common.{◌≡◌, ℕ, true, false, cond, not, eqb, ◌⊎◌, List, [], ◌∷◌, map, set, Some, None, Ok, Err, Option, option_map, Result, sym, refl, ap, ◌∙◌, inl, inr, arith}
use Rattle.std.specs.List.{slice_get}
use Rattle.std.specs.Option.{ok_or, option_and_then}
use Rattle.std.specs.Result.{result_map_both}
use Rattle.std.proofs.lemmas.Bool.{cases_Bool, eqb-true}
use Rattle.std.proofs.lemmas.Option.{slice_get-map, slice_get_within}
use Rattle.base.specs.declared.refusal.Refusal.{Refusal}
use Rattle.base.specs.declared.refusal.Refusal.TheVariants as refusal
use Rattle.base.specs.Refusals.{unless}
use Rattle.sets.specs.declared.box_number.BoxNumber.{BoxNumber}
use Rattle.sets.specs.declared.round_number.RoundNumber.{RoundNumber}
use Rattle.base.specs.Results.{and_then}
use Rattle.machine.specs.declared.place.Blow.{Blow}
use Rattle.machine.specs.declared.place.Blow.TheVariants as blow
use Rattle.machine.specs.declared.place.Place.{Place}
use Rattle.machine.specs.declared.place.Place.TheVariants as place
use Rattle.machine.specs.declared.place.Rung.{Rung}
use Rattle.base.specs.Numbered.{by_number}
use Rattle.machine.specs.Places.{PlaceState, place_state, at_rest, down, rung, rung_of, with_its_blow, is_undrawn}
use Rattle.machine.specs.State.{State}
use Rattle.machine.specs.RowCheck.{row_verdict}
use Rattle.machine.specs.OrderCalls.{with_blow, on_draw, on_report}
use Rattle.base.specs.Results.{answer}
use Rattle.promise.specs.declared.request.Reply.TheVariants as reply
use Rattle.promise.specs.CallLog.{Answer}
use Rattle.base.proofs.NumberedLemmas.{list_ext, get-by_number, get-set}

-- where a box rings the place says so
pub rung_place : {K : Type 0} (row : List (Place K)) (p : ℕ) (x : Rung K)
    → option_and_then rung_of (slice_get (map place_state row) p) ≡ Some x → slice_get row p ≡ Some (place.Rung x)
rung_place {K} row p x e = by (slice_get row p) (ap (option_and_then rung_of) (sym (slice_get-map place_state row p)) ∙ e)
  where
    by : (o : Option (Place K)) → option_and_then rung_of (option_map place_state o) ≡ Some x → o ≡ Some (place.Rung x)
    by None e = absurd (grind arith)
    by (Some (place.Resting b)) e = absurd (grind arith)
    by (Some (place.Down r)) e = absurd (grind arith)
    by (Some (place.Rung y)) e = cc

module _ {K : Type 0} (row : List (Place K)) (p : ℕ) (x : Rung K) (b : Blow) (there : slice_get row p ≡ Some (place.Rung x)) where
  abbrev f : ℕ → PlaceState K → PlaceState K
  f q y = cond (eqb q p) (with_its_blow b y) y

  abbrev then : Place K
  then = place.Rung (record x { blow = b })

  here : (q : ℕ) → (eqb q p ≡ true) ⊎ (eqb q p ≡ false)
      → option_map place_state (cond (eqb q p) (Some then) (slice_get row q)) ≡ option_map (f q) (option_map place_state (slice_get row q))
  here q (inl e) =
      let at : slice_get row q ≡ Some (place.Rung x) = ap (slice_get row) (eqb-true q p e) ∙ there in
      ap (λ t. option_map place_state (cond t (Some then) (slice_get row q))) e
      ∙ sym ((λ j. option_map (λ y. cond (e j) (with_its_blow b y) y) (option_map place_state (at j))))
  here q (inr e) =
      ap (λ t. option_map place_state (cond t (Some then) (slice_get row q))) e ∙ same (slice_get row q)
      ∙ ap (λ t. option_map (λ y. cond t (with_its_blow b y) y) (option_map place_state (slice_get row q))) (sym e)
    where
      same : (o : Option (Place K)) → option_map place_state o ≡ option_map (λ y. y) (option_map place_state o)
      same None = refl
      same (Some y) = refl

  -- the place is written, and no other
  pub blow_set : map place_state (set row p then) ≡ by_number f (map place_state row)
  blow_set = list_ext _ _ (λ q.
      slice_get-map place_state (set row p then) q ∙ ap (option_map place_state) (get-set row p q then (slice_get_within row p (place.Rung x) there))
      ∙ here q (cases_Bool (eqb q p))
      ∙ sym (get-by_number f (map place_state row) q ∙ ap (option_map (f q)) (slice_get-map place_state row q)))

-- where the box does not ring, nothing
pub blow_kept : {K : Type 0} (row : List (Place K)) (p : ℕ) (b : Blow) → option_and_then rung_of (slice_get (map place_state row) p) ≡ None
    → map place_state row ≡ by_number (λ q y. cond (eqb q p) (with_its_blow b y) y) (map place_state row)
blow_kept {K} row p b none = list_ext _ _ (λ q. here q (cases_Bool (eqb q p)) ∙ sym (get-by_number (λ q y. cond (eqb q p) (with_its_blow b y) y) (map place_state row) q))
  where
    quiet : (o : Option (PlaceState K)) → option_and_then rung_of o ≡ None → o ≡ option_map (with_its_blow b) o
    quiet None e = refl
    quiet (Some (at_rest a)) e = refl
    quiet (Some (down r)) e = refl
    quiet (Some (rung x)) e = absurd (grind arith)

    same : (o : Option (PlaceState K)) → o ≡ option_map (λ y. y) o
    same None = refl
    same (Some y) = refl

    here : (q : ℕ) → (eqb q p ≡ true) ⊎ (eqb q p ≡ false)
        → slice_get (map place_state row) q ≡ option_map (λ y. cond (eqb q p) (with_its_blow b y) y) (slice_get (map place_state row) q)
    here q (inr e) = same (slice_get (map place_state row) q) ∙ ap (λ t. option_map (λ y. cond t (with_its_blow b y) y) (slice_get (map place_state row) q)) (sym e)
    here q (inl e) =
        quiet (slice_get (map place_state row) q) (ap (λ k. option_and_then rung_of (slice_get (map place_state row) k)) (eqb-true q p e) ∙ none)
        ∙ ap (λ t. option_map (λ y. cond t (with_its_blow b y) y) (slice_get (map place_state row) q)) (sym e)

-- ---- what comes of it

module _ {K : Type 0} (s : State K) (p : BoxNumber) where
  pub drawn_state : (r : RoundNumber) → Ok r ≡ result_map_both (λ x. x.0) (λ e. e) (on_draw p s)
      → on_draw p s ≡ Ok (r, with_blow blow.Out p.0 s)
  unfolding on_draw
  drawn_state r e = by (slice_get s.row p.0) e
    where
      drawing_of : Option (PlaceState K) → Result (RoundNumber × State K) Refusal
      drawing_of o =
          and_then (λ e. e) (row_verdict s) (λ _.
          and_then (λ e. e) (ok_or o refusal.Stranger) (λ place.
          and_then (λ e. e) (ok_or (rung_of place) refusal.Silent) (λ x.
          unless ((not (is_undrawn x.blow), refusal.Order) ∷ []) (x.round, with_blow blow.Out p.0 s))))

      by : (o : Option (PlaceState K)) → Ok r ≡ result_map_both (λ x. x.0) (λ e. e) (drawing_of o)
          → drawing_of o ≡ Ok (r, with_blow blow.Out p.0 s)
      by None e = absurd (grind arith)
      by (Some (at_rest h)) e = absurd (grind arith)
      by (Some (down f)) e = absurd (grind arith)
      by (Some (rung y)) e = grind arith

  -- an order that is out is taken back, and another refused
  pub reported_ok : (b : Blow) (r : RoundNumber) → Ok tt ≡ answer (on_report b p r s) → on_report b p r s ≡ Ok (with_blow b p.0 s)
  unfolding on_report
  reported_ok b r e = grind arith

  pub reported_not : (b : Blow) (r : RoundNumber) (e : Refusal) → Err e ≡ answer (on_report b p r s) → on_report b p r s ≡ Err e
  reported_not b r e is = by (on_report b p r s) is
    where
      by : (r : Result (State K) Refusal) → Err e ≡ answer r → r ≡ Err e
      by (Ok x) is = absurd (grind arith)
      by (Err d) is = cc

-- the reply
abbrev pub drawn_told : {K : Type 0} → Result (RoundNumber × State K) Refusal → Answer K
drawn_told r = result_map_both (λ x. reply.Drawn x.0) (λ e. e) r
