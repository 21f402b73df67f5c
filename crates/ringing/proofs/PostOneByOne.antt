-- The boxes at rest post their frames one after another.
use Rattle.std.proofs.Common.{◌≡◌, ℕ, ◌+◌, ◌<◌, Bool, true, false, cond, eqb, ltb, ◌⊎◌, List, length, map, get_or, Some, None, Ok, Option, option_map, refl, sym, ap, ◌∙◌, inl, inr, arith}
use Rattle.std.specs.List.{slice_get}
use Rattle.std.proofs.lemmas.Bool.{cases_eq}
use Rattle.std.proofs.lemmas.Bool.Decides.{nat_tests}
use Rattle.std.proofs.lemmas.Option.{slice_get_within, slice_get_read, slice_get-map}
use Rattle.sets.specs.Masks.{member}
use Rattle.frames.specs.Frames.{frame_bytes}
use Rattle.boxes.specs.declared.states.Held.{Held}
use Rattle.boxes.specs.declared.states.Resting.{Resting}
use Rattle.boxes.specs.Boxes.{frame_of}
use Rattle.wire.specs.WireState.{WireState, on_post}
use Rattle.machine.specs.declared.place.Place.{Place}
use Rattle.machine.specs.declared.place.Place.TheVariants as place
use Rattle.machine.specs.Places.{PlaceState, at_rest, down, rung, place_state}
use Rattle.machine.specs.State.{State}
use Rattle.machine.specs.RoundCall.{frame_at, sent_frame, wire_in_round}
use Rattle.machine.specs.MachineLaws.{RefusesNothing}
use Rattle.proposals.specs.Kinds.{Kind}

-- what stands at a place that was read
pub stands_at : {K : Type 0} (stands : List (PlaceState K)) (row : List (Place K)) → stands ≡ map place_state row → (i : ℕ) (x : Place K)
    → i < length row → x ≡ get_or row i x → slice_get stands i ≡ Some (place_state x)
stands_at stands row is i x l e = ap (λ r. slice_get r i) is ∙ slice_get-map place_state row i ∙ ap (option_map place_state) (slice_get_read row (length row) i x refl l e)

pub not_resting : {K : Type 0} (x : Place K) → ((b : Resting K) → x ≡ place.Resting b → ⊥) → frame_at (Some (place_state x)) ≡ None
not_resting (place.Resting b) other = absurd (other b refl)
not_resting (place.Down r) other = refl
not_resting (place.Rung x) other = refl

module _ {K : Type 0} (kind : Kind K) (s : State K) (goes : RefusesNothing kind s)
    (none : (q : ℕ) → s.wire.posted q ≡ None) where
  -- the wire when the boxes below m have posted
  abbrev pub posted_below : ℕ → WireState
  posted_below m = record s.wire { posted = λ q. cond (ltb q m) (option_map (frame_bytes kind) (sent_frame s q)) None }

  pub nobody_yet : s.wire ≡ posted_below 0
  nobody_yet = λ j. record s.wire { posted = λ q. (none q ∙ ap (λ t. cond t (option_map (frame_bytes kind) (sent_frame s q)) None) (let e : false ≡ ltb q 0 = grind (arith, nat_tests) in e)) j }

  -- a box that is not at rest posts nothing
  pub none_more : (i : ℕ) → frame_at (slice_get s.row i) ≡ None → posted_below i ≡ posted_below (i + 1)
  none_more i e = λ j. record s.wire { posted = λ q. at q (cases_eq q i) j }
    where
      at : (q : ℕ) → (q ≡ i) ⊎ (q ≡ i → ⊥)
          → cond (ltb q i) (option_map (frame_bytes kind) (sent_frame s q)) None
          ≡ cond (ltb q (i + 1)) (option_map (frame_bytes kind) (sent_frame s q)) None
      at q (inl is) =
          let nothing : sent_frame s q ≡ None = ap (sent_frame s) is ∙ e in
          let t : ltb q i ≡ false = grind (arith, nat_tests) in
          let u : ltb q (i + 1) ≡ true = grind (arith, nat_tests) in
          ap (λ t. cond t (option_map (frame_bytes kind) (sent_frame s q)) None) t ∙ ap (option_map (frame_bytes kind)) (sym nothing) ∙ ap (λ t. cond t (option_map (frame_bytes kind) (sent_frame s q)) None) (sym u)
      at q (inr off) = ap (λ t. cond t (option_map (frame_bytes kind) (sent_frame s q)) None) (let t : ltb q i ≡ ltb q (i + 1) = grind (arith, nat_tests) in t)

  -- one at rest does, and is not refused
  module _ (i : ℕ) (b : Held K) (here : slice_get s.row i ≡ Some (at_rest b)) where
    pub posts_one : on_post b.number.0 (frame_bytes kind (frame_of b)) (posted_below i) ≡ Ok (posted_below (i + 1))
    posts_one =
        ap (λ n. on_post n (frame_bytes kind (frame_of b)) (posted_below i)) (goes.own i b here).0
        ∙ goes.posts i b here (posted_below i) refl refl (ap (λ t. cond t (option_map (frame_bytes kind) (sent_frame s i)) None) (let t : ltb i i ≡ false = grind (arith, nat_tests) in t))
        ∙ ap Ok (λ j. record s.wire { posted = λ q. at q (cases_eq q i) j })
      where
        at : (q : ℕ) → (q ≡ i) ⊎ (q ≡ i → ⊥)
            → cond (eqb q i) (Some (frame_bytes kind (frame_of b))) (cond (ltb q i) (option_map (frame_bytes kind) (sent_frame s q)) None)
            ≡ cond (ltb q (i + 1)) (option_map (frame_bytes kind) (sent_frame s q)) None
        at q (inl is) =
            let something : sent_frame s q ≡ Some (frame_of b) = ap (sent_frame s) is ∙ ap frame_at here in
            let t : eqb q i ≡ true = grind (arith, nat_tests) in
            let u : ltb q (i + 1) ≡ true = grind (arith, nat_tests) in
            ap (λ t. cond t (Some (frame_bytes kind (frame_of b))) (cond (ltb q i) (option_map (frame_bytes kind) (sent_frame s q)) None)) t
            ∙ ap (option_map (frame_bytes kind)) (sym something) ∙ ap (λ t. cond t (option_map (frame_bytes kind) (sent_frame s q)) None) (sym u)
        at q (inr off) =
            let t : eqb q i ≡ false = grind (arith, nat_tests) in
            let u : ltb q i ≡ ltb q (i + 1) = grind (arith, nat_tests) in
            λ j. cond (t j) (Some (frame_bytes kind (frame_of b))) (cond (u j) (option_map (frame_bytes kind) (sent_frame s q)) None)

  -- then all have posted that are up
  pub all_posted : (m : ℕ) → length s.row ≡ m → posted_below m ≡ wire_in_round kind s
  all_posted m len = λ j. record s.wire { posted = λ q. at q (slice_get s.row q) refl j }
    where
      both : (t u : Bool) → cond {A = Option (List ℕ)} t None None ≡ cond u None None
      both true true = refl
      both true false = refl
      both false true = refl
      both false false = refl

      same : (q : ℕ) (t u : Bool) → sent_frame s q ≡ None
          → cond t (option_map (frame_bytes kind) (sent_frame s q)) None ≡ cond u (option_map (frame_bytes kind) (sent_frame s q)) None
      same q t u e = ap (λ o. cond t (option_map (frame_bytes kind) o) None) e ∙ both t u ∙ ap (λ o. cond u (option_map (frame_bytes kind) o) None) (sym e)

      at : (q : ℕ) (o : Option (PlaceState K)) → slice_get s.row q ≡ o
          → cond (ltb q m) (option_map (frame_bytes kind) (sent_frame s q)) None
          ≡ cond (member s.wire.up q) (option_map (frame_bytes kind) (sent_frame s q)) None
      at q None e = same q (ltb q m) (member s.wire.up q) (ap frame_at e)
      at q (Some (at_rest b)) e =
          let l = slice_get_within s.row q (at_rest b) e in
          let t : ltb q m ≡ true = grind (arith, nat_tests) in
          let u = (goes.own q b e).2 in
          λ j. cond ((t ∙ sym u) j) (option_map (frame_bytes kind) (sent_frame s q)) None
      at q (Some (down r)) e = same q (ltb q m) (member s.wire.up q) (ap frame_at e)
      at q (Some (rung x)) e = same q (ltb q m) (member s.wire.up q) (ap frame_at e)
