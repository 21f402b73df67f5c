-- A round of a checked row: nothing is refused in it.
use Rattle.std.specs.List.{slice_get}
use Rattle.std.specs.Bool.{⊤}
use Rattle.std.specs.Result.{result_map_both}
use Rattle.std.proofs.Common.{◌≡◌, ℕ, ◌<◌, ◌≤◌, Bool, true, false, not, ◌&&◌, ◌||◌, cond, ltb, List, [], ◌∷◌, length, map, is_some, Some, None, Ok, Option, option_map, sym, refl, ap, ◌∙◌, subst, arith}
use Rattle.std.proofs.lemmas.Bool.Decides.{nat_tests}
use Rattle.base.specs.declared.refusal.Refusal.TheVariants as refusal
use Rattle.base.specs.Refusals.{unless}
use Rattle.base.specs.Counts.{any, count}
use Rattle.base.proofs.CountLemmas.{any_has, none_any, count_le, one_fails}
use Rattle.base.proofs.NumberedLemmas.{list_none, get_some}
use Rattle.sets.specs.declared.set.BoxSet.{BoxSet}
use Rattle.sets.specs.Companies.{is_company}
use Rattle.sets.specs.Masks.{member}
use Rattle.sets.proofs.MemberLemmas.{member_below, member_is, company_member, company_count}
use Rattle.proposals.specs.Kinds.{Kind}
use Rattle.boxes.specs.Frame.{Frame}
use Rattle.boxes.specs.Frames.{frame_bytes, longest_frame}
use Rattle.boxes.specs.declared.states.Held.{Held}
use Rattle.boxes.specs.declared.states.Notes.{Notes}
use Rattle.boxes.specs.declared.states.Resting.{Resting}
use Rattle.boxes.specs.Boxes.{frame_of}
use Rattle.boxes.specs.BoxRounds.{box_refusal, notes_with, on_hear, close_with}
use Rattle.boxes.specs.ByFrames.{tells_missing, boxes_not_heard, boxes_told_missing, close_by_frames, outcome_by_frames}
use Rattle.boxes.specs.BoxLaws.{FrameIsShort, ComposedIsHeard}
use Rattle.wire.specs.Postable.{is_postable}
use Rattle.wire.specs.WireState.{WireState, IsWellFormed, is_lost, heard_frame, with_posted, on_post, on_fetch}
use Rattle.machine.specs.declared.place.Place.{Place}
use Rattle.machine.specs.Places.{PlaceState, at_rest, down, rung, place_state}
use Rattle.machine.specs.State.{State, is_gone, has_rung, hears_on}
use Rattle.machine.specs.RowCheck.{bad_row, is_over}
use Rattle.machine.specs.RoundCall.{frame_at, sent_frame, frames_heard_by, wire_in_round}
use Rattle.machine.specs.MachineLaws.{RoundRefusesNothing}
use Rattle.machine.proofs.CheckedRow.{Rests, places, few_gone, fits, rests_at}

-- a frame that is sent is that of a box at rest there
pub sent_by : {K : Type 0} (o : Option (PlaceState K)) (f : Frame K) → frame_at o ≡ Some f
    → (b : Held K) × (o ≡ Some (at_rest b)) × (f ≡ frame_of b)
sent_by None f e = absurd (grind arith)
sent_by (Some (at_rest b)) f e = (b, refl, cc)
sent_by (Some (down r)) f e = absurd (grind arith)
sent_by (Some (rung x)) f e = absurd (grind arith)

pub when_some : {X : Type 0} (t : Bool) (o : Option X) (x : X) → cond t o None ≡ Some x → (t ≡ true) × (o ≡ Some x)
when_some true o x e = (refl, e)
when_some false o x e = absurd (grind arith)

is_lost_by : (m : WireState) (p q : ℕ) → is_lost m p q ≡ true → is_some (m.lost q) ≡ true
is_lost_by m p q e = by (m.lost q) refl
  where
    by : (o : Option BoxSet) → m.lost q ≡ o → is_some (m.lost q) ≡ true
    by None is = absurd (grind arith)
    by (Some s) is = ap is_some is

posts_ok : (q : ℕ) (f : List ℕ) (m : WireState) → q < m.n → member m.up q ≡ true → is_some (m.posted q) ≡ false → is_postable f ≡ true
    → on_post q f m ≡ Ok (with_posted q f m)
unfolding on_post
posts_ok q f m l up new fits = grind (arith, nat_tests)

-- what is heard of a box, as bytes
pub bytes_of : {X : Type 0} (f : X → List ℕ) (lost up : Bool) (o : Option X)
    → cond lost None (cond up (option_map f o) None) ≡ option_map f (cond (up && not lost) o None)
bytes_of f true true o = refl
bytes_of f true false o = refl
bytes_of f false true o = refl
bytes_of f false false o = refl

-- it is given where it has room
fits_room : (m : WireState) (p q room : ℕ) (o : Option (List ℕ)) → heard_frame m p q ≡ o → ((f : List ℕ) → o ≡ Some f → length f ≤ room)
    → p < m.n → q < m.n → on_fetch p q room m ≡ Ok o
unfolding on_fetch
fits_room m p q room None e short l k = grind (arith, nat_tests)
fits_room m p q room (Some f) e short l k = let s = short f refl in grind (arith, nat_tests)

module _ {K : Type 0} (kind : Kind K) (s : State K) (row : List (Place K)) (is : s.row ≡ map place_state row) (formed : IsWellFormed s.wire)
    (good : bad_row s ≡ false) (still : is_over s ≡ false) where
  -- what a box that is up has at its place
  pub up_rests : (q : ℕ) → member s.wire.up q ≡ true → (b : Held K) × (slice_get s.row q ≡ Some (at_rest b))
  up_rests q up = by (slice_get s.row q) refl
    where
      l : q < s.wire.n
      l = member_below s.wire.n s.wire.up q formed.up_within up

      by : (o : Option (PlaceState K)) → slice_get s.row q ≡ o → (b : Held K) × (slice_get s.row q ≡ Some (at_rest b))
      by None e = absurd (let n = places s row is good in let g = get_some s.row q (omega (arith, n, l)) in let h = g.1 in grind arith)
      by (Some (at_rest b)) e = (b, e)
      by (Some (down r)) e = absurd (let f = fits s row is good q (down r) e in grind arith)
      by (Some (rung x)) e = absurd (let f = list_none has_rung s.row still q (rung x) e in grind arith)

  -- whom a box hears, and what
  pub heard_from : (p q : ℕ) (f : Frame K) → frames_heard_by s p q ≡ Some f
      → (hears_on s.wire p q ≡ true) × ((b : Held K) × (slice_get s.row q ≡ Some (at_rest b)) × (f ≡ frame_of b))
  heard_from p q f e = let w = when_some (hears_on s.wire p q) (sent_frame s q) f e in (w.0, sent_by (slice_get s.row q) f w.1)

  pub heard_some : (p q : ℕ) → is_some (frames_heard_by s p q) ≡ hears_on s.wire p q
  heard_some p q = by (hears_on s.wire p q) refl
    where
      at_last : (b : Held K) × (slice_get s.row q ≡ Some (at_rest b)) → is_some (sent_frame s q) ≡ true
      at_last (b, at) = ap (λ o. is_some (frame_at o)) at

      by : (t : Bool) → hears_on s.wire p q ≡ t → is_some (cond t (sent_frame s q) None) ≡ t
      by false e = refl
      by true e = at_last (up_rests q (grind arith))

  -- some box is at rest, and so not all rounds are closed
  pub rounds_left : is_company s.wire.n s.t ≡ true → s.closed ≤ s.t
  rounds_left kind = by (one_fails (is_gone s.wire) s.wire.n (let g = few_gone s row is good in grind (arith, nat_tests)))
    where
      from : (p : ℕ) (b : Held K) → Rests s p b → (a : Resting K) × (a.held ≡ b) → s.closed ≤ s.t
      from p b r (a, e) =
          let c : a.held.closed ≡ s.closed = ap (λ h. h.closed) e ∙ r.closed in
          let t : a.held.t ≡ s.t = ap (λ h. h.t) e ∙ r.t in
          omega (arith, a.ahead, a.due)

      at_rest_is : (p : ℕ) → (b : Held K) × (slice_get s.row p ≡ Some (at_rest b)) → s.closed ≤ s.t
      at_rest_is p (b, at) = from p b (rests_at s row is good p b at) (rests_at s row is good p b at).box

      by : (p : ℕ) × (p < s.wire.n) × (is_gone s.wire p ≡ false) → s.closed ≤ s.t
      by (p, l, e) = at_rest_is p (up_rests p (grind arith))

  module _ where
    heard_bytes : (p q : ℕ) → heard_frame (wire_in_round kind s) p q ≡ option_map (frame_bytes kind) (frames_heard_by s p q)
    heard_bytes p q = bytes_of (frame_bytes kind) (is_lost s.wire p q) (member s.wire.up q) (sent_frame s q)

  module _ (p : ℕ) (b : Held K) (at : slice_get s.row p ≡ Some (at_rest b)) where
    r : Rests s p b
    r = rests_at s row is good p b at

    not_heard_gone : (q : ℕ) → q < b.n → is_some (frames_heard_by s p q) ≡ false → is_gone s.wire q ≡ true
    not_heard_gone q l e =
        let h = heard_some p q in
        let k = is_lost_by s.wire p q in
        grind arith

    few : b.n ≤ 32
    few = let limits = formed.size in let n = r.n in grind (arith, nat_tests)

    -- who is told missing is not up, and so is not heard
    told_inside : (i : ℕ) → i < 32
        → (member (boxes_told_missing b (frames_heard_by s p)) i && not (member (boxes_not_heard b (frames_heard_by s p)) i)) ≡ false
    told_inside i l =
        let told = member_is (λ i. any (λ q. tells_missing (frames_heard_by s p q) i) b.n)
        (boxes_told_missing b (frames_heard_by s p)) refl i l in
        let other = company_member b.n (λ i. not (is_some (frames_heard_by s p i))) few i in
        let heard_frame = heard_some p i in
        let f : any (λ q. tells_missing (frames_heard_by s p q) i) b.n ≡ true → (i < b.n) × (member s.wire.up i ≡ false) =
        λ e. by_one (any_has (λ q. tells_missing (frames_heard_by s p q) i) b.n e) in
        grind (arith, nat_tests)
      where
        by_box : (q : ℕ) (c : Held K) → slice_get s.row q ≡ Some (at_rest c) → member c.missing i ≡ true
            → (i < b.n) × (member s.wire.up i ≡ false)
        by_box q c here m =
            let o = (rests_at s row is good q c here).misses i m in
            (omega (arith, o.0, r.n), o.1)

        by_one : (q : ℕ) × (q < b.n) × (tells_missing (frames_heard_by s p q) i ≡ true) → (i < b.n) × (member s.wire.up i ≡ false)
        by_one (q, k, e) = by (frames_heard_by s p q) refl e
          where
            by_frame : (f : Frame K) → (c : Held K) × (slice_get s.row q ≡ Some (at_rest c)) × (f ≡ frame_of c) → member f.missing i ≡ true
                → (i < b.n) × (member s.wire.up i ≡ false)
            by_frame f (c, here, same) m = by_box q c here (ap (λ g. member g.missing i) (sym same) ∙ m)

            by : (o : Option (Frame K)) → frames_heard_by s p q ≡ o → tells_missing o i ≡ true → (i < b.n) × (member s.wire.up i ≡ false)
            by None is e = absurd (grind arith)
            by (Some f) is e = by_frame f (heard_from p q f is).1 e

    tally : (ltb b.t (count (member (boxes_not_heard b (frames_heard_by s p))) 32)
        || any (λ i. member (boxes_told_missing b (frames_heard_by s p)) i && not (member (boxes_not_heard b (frames_heard_by s p)) i)) 32)
        ≡ false
    tally =
        let a = company_count b.n (λ i. not (is_some (frames_heard_by s p i))) few in
        let c = count_le (λ i. not (is_some (frames_heard_by s p i))) (is_gone s.wire) b.n (λ q l e. not_heard_gone q l (grind arith)) in
        let same = ap (count (is_gone s.wire)) r.n in
        let d : count (is_gone s.wire) b.n ≤ b.t = omega (arith, same, few_gone s row is good, r.t) in
        let inside = none_any (λ i. member (boxes_told_missing b (frames_heard_by s p)) i && not (member (boxes_not_heard b (frames_heard_by s p)) i)) 32 told_inside in
        grind (arith, nat_tests)

    pub closes_by : close_by_frames kind b (frames_heard_by s p) ≡ Ok (outcome_by_frames kind b (frames_heard_by s p))
    unfolding close_by_frames close_with outcome_by_frames
    closes_by = ap (λ t. unless ((t, refusal.Tally) ∷ []) (outcome_by_frames kind b (frames_heard_by s p))) tally

    short_of : FrameIsShort kind → (1 ≤ length (frame_bytes kind (frame_of b))) × (length (frame_bytes kind (frame_of b)) ≤ longest_frame)
    short_of short = by r.box
      where
        by : (a : Resting K) × (a.held ≡ b)
            → (1 ≤ length (frame_bytes kind (frame_of b))) × (length (frame_bytes kind (frame_of b)) ≤ longest_frame)
        by (a, e) = subst (λ h. (1 ≤ length (frame_bytes kind (frame_of h))) × (length (frame_bytes kind (frame_of h)) ≤ longest_frame)) e (short a)

    -- a wire on which the box has not posted takes its frame
    pub posts_by : FrameIsShort kind → (m : WireState) → m.n ≡ s.wire.n → m.up ≡ s.wire.up → m.posted p ≡ None
        → on_post p (frame_bytes kind (frame_of b)) m ≡ Ok (with_posted p (frame_bytes kind (frame_of b)) m)
    posts_by short m n up none =
        let l = short_of short in
        let placed = r.placed in
        posts_ok p (frame_bytes kind (frame_of b)) m (omega arith) (ap (λ u. member u p) up ∙ r.is_up) (ap is_some none) (grind (arith, nat_tests))

    module _ where
      -- box p hears what box q sends, which it has not heard before
      pub hears_by : ComposedIsHeard kind → (q : ℕ) (f : Frame K) → frames_heard_by s p q ≡ Some f → (m : Notes K)
          → member m.heard q ≡ false
          → on_hear kind b m (frame_bytes kind f) ≡ Ok (notes_with kind m f)
      hears_by composed q f came m new = by r.box (heard_from p q f came).0 (heard_from p q f came).1
        where
          by : (a : Resting K) × (a.held ≡ b) → hears_on s.wire p q ≡ true
              → (c : Held K) × (slice_get s.row q ≡ Some (at_rest c)) × (f ≡ frame_of c)
              → on_hear kind b m (frame_bytes kind f) ≡ Ok (notes_with kind m f)
          by (a, e) on (c, here, same) = from (rests_at s row is good q c here) (rests_at s row is good q c here).box
            where
              from : Rests s q c → (d : Resting K) × (d.held ≡ c) → on_hear kind b m (frame_bytes kind f) ≡ Ok (notes_with kind m f)
              from o (d, g) =
                  let numbered : d.held.number.0 ≡ q = ap (λ h. h.number.0) g ∙ o.number in
                  let heard_frame : member m.heard d.held.number.0 ≡ false = ap (member m.heard) numbered ∙ new in
                  let up = r.is_up in
                  let missed = r.misses q in
                  let lost = o.misses p in
                  let down : member a.held.missing d.held.number.0 ≡ false = (λ j. member (e j).missing (numbered j)) ∙ grind arith in
                  let bad : member d.held.missing a.held.number.0 ≡ false =
                  (λ j. member (g j).missing ((ap (λ h. h.number.0) e ∙ r.number) j)) ∙ grind arith in
                  (λ j. on_hear kind (sym e j) m (frame_bytes kind ((same ∙ ap frame_of (sym g)) j)))
                  ∙ composed d a m (ap (λ h. h.n) g ∙ o.n ∙ sym r.n ∙ ap (λ h. h.n) (sym e))
                  (ap (λ h. h.closed) g ∙ o.closed ∙ sym r.closed ∙ ap (λ h. h.closed) (sym e))
                  ∙ (λ j. result_map_both {T = ⊤} (λ _. notes_with kind m (frame_of d.held)) (box_refusal a.held)
                  (unless ((heard_frame j, refusal.Heard) ∷ (down j, refusal.Down) ∷ (bad j, refusal.Set) ∷ []) tt))
                  ∙ ap (λ x. Ok (notes_with kind m x)) (ap frame_of g ∙ sym same)

-- what reaches a box has room where there is room for the longest frame
fetches_by : {K : Type 0} (kind : Kind K) (s : State K) (row : List (Place K)) (is : s.row ≡ map place_state row)
    (formed : IsWellFormed s.wire) (good : bad_row s ≡ false) (still : is_over s ≡ false) → FrameIsShort kind
    → (p q room : ℕ) → p < s.wire.n → q < s.wire.n → longest_frame ≤ room
    → on_fetch p q room (wire_in_round kind s) ≡ Ok (option_map (frame_bytes kind) (frames_heard_by s p q))
fetches_by {K} kind s row is formed good still short p q room l k fits =
    fits_room (wire_in_round kind s) p q room (option_map (frame_bytes kind) (frames_heard_by s p q)) (heard_bytes kind s row is formed good still p q)
    (λ f e. by (frames_heard_by s p q) (heard_from kind s row is formed good still p q) f e) l k
  where
    of_box : (f : Frame K) → (c : Held K) × (slice_get s.row q ≡ Some (at_rest c)) × (f ≡ frame_of c) → length (frame_bytes kind f) ≤ room
    of_box f (c, here, same) =
        let z = (short_of kind s row is formed good still q c here short).1 in
        let e = ap (λ g. length (frame_bytes kind g)) same in
        omega arith

    by : (o : Option (Frame K))
        → ((f : Frame K) → o ≡ Some f
        → (hears_on s.wire p q ≡ true) × ((c : Held K) × (slice_get s.row q ≡ Some (at_rest c)) × (f ≡ frame_of c)))
        → (g : List ℕ) → option_map (frame_bytes kind) o ≡ Some g → length g ≤ room
    by None from g e = absurd (grind arith)
    by (Some f) from g e = let same : frame_bytes kind f ≡ g = cc in let z = of_box f (from f refl).1 in let y = ap length same in omega arith

pub round_goes : {K : Type 0} (kind : Kind K) → FrameIsShort kind → ComposedIsHeard kind → RoundRefusesNothing kind
round_goes kind short composed s row is formed size_ok good still = record {
  places = places s row is good;
  ahead = rounds_left kind s row is formed good still size_ok;
  own = λ p b at. let r = rests_at s row is good p b at in (r.number, r.n, r.is_up);
  posts = λ p b at. posts_by kind s row is formed good still p b at short;
  fetches = fetches_by kind s row is formed good still short;
  hears = λ p q b f at came m new. hears_by kind s row is formed good still p b at composed q f came m new;
  closes = λ p b at. closes_by kind s row is formed good still p b at;
}
