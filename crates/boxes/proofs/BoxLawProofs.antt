-- What holds of every box, by the laws of the kind and of frames.
use Rattle.std.proofs.Common.{◌≡◌, ℕ, ◌+◌, ◌^◌, ◌<◌, ◌≤◌, Bool, true, false, cond, not, ◌&&◌, ◌||◌, eqb, leb, ltb, List, [], ◌∷◌, map, Some, Ok, Err, Result, sym, refl, ap, ◌∙◌, subst, arith}
use mathlib.Core.HLevel.{is_prop→PathP}
use mathlib.Core.Bool.{Bool-set}
use native.Mathlib.Bridge.{le_prop}
use Rattle.std.specs.List.{cons_option}
use Rattle.std.specs.Result.{result_map_both, result_ok, result_unwrap_or}
use Rattle.std.proofs.lemmas.Bool.{eq-eqb, lt-leb}
use Rattle.std.proofs.lemmas.Bool.Decides.{nat_tests}
use Rattle.std.proofs.lemmas.List.Elements.{All-head, All-tail}
use Rattle.base.specs.declared.refusal.Refusal.TheVariants as refusal
use Rattle.base.specs.Refusals.{unless}
use Rattle.sets.specs.declared.round_number.RoundNumber.{RoundNumber}
use Rattle.sets.specs.declared.set.BoxSet.{BoxSet}
use Rattle.base.specs.Counts.{any, count}
use Rattle.sets.specs.Masks.{member}
use Rattle.sets.proofs.BitLemmas.{bit_high}
use Rattle.base.proofs.CountLemmas.{none_any}
use Rattle.base.specs.Results.{◌>>=◌, map_fault}
use Rattle.frames.specs.Frames.{frame_bytes}
use Rattle.frames.specs.FrameLaws.{HeadFits, FrameReadsBack}
use Rattle.boxes.specs.declared.states.Held.{Held}
use Rattle.boxes.specs.declared.states.Notes.{Notes}
use Rattle.boxes.specs.declared.states.Resting.{Resting}
use Rattle.boxes.specs.Boxes.{next_round, frame_of}
use Rattle.boxes.specs.BoxRounds.{Outcome, rests, rings, open_notes, frame_refusal, box_refusal, bad_set, frame_verdict, notes_with, on_hear, best_horizon, held_next, unheard_boxes, close_with, on_close}
use Rattle.boxes.specs.ByFrames.{is_from, heard_frames, frames_in, notes_after}
use Rattle.boxes.specs.BoxLaws.{is_ringing, BoxKeeps, ListeningKeeps, RingsWhen, BoxIsDetermined, ListeningIsDetermined, NotesShowFrames, ClosesByFrames, SentAreRead, TellingAddsUp, IsOrderFree, ComposedIsHeard}
use Rattle.sets.proofs.MemberLemmas.{inside_counts}
use Rattle.boxes.proofs.SentFrame.{frame_fits}
use Rattle.boxes.proofs.NotesShowFrames.{Shows, shown_closes, shown_same}
use Rattle.boxes.proofs.BytesTold.{told_shows}
use Rattle.boxes.proofs.FirstFound.{same_found}
use Rattle.proposals.specs.Kinds.{Kind, IsOrder}

pub box_kept : {K : Type 0} → BoxKeeps K
box_kept b =
    let several = b.several in
    let few = b.few in
    let fallible = b.fallible in
    let survived = b.survived in
    (grind (arith, nat_tests), b.placed, b.within, b.present, b.sparse, b.ahead, b.due)

pub listening_kept : {K : Type 0} → ListeningKeeps K
listening_kept l = l.itself

rung_by : {K : Type 0} (t : Bool) (round : RoundNumber) (x : K) (b : Held K) → is_ringing (cond t (rings round x) (rests b)) ≡ t
rung_by true round x b = refl
rung_by false round x b = refl

pub rings_when : {K : Type 0} → RingsWhen K
unfolding on_close close_with
rings_when {K} b m o e = by (tally b.held) refl e
  where
    N : BoxSet
    N = unheard_boxes b.held m

    tally : Held K → Bool
    tally h = ltb h.t (count (member N) 32) || any (λ i. member m.known i && not (member N i)) 32

    end : Outcome K
    end = cond (eqb (best_horizon b.held m.known) (b.held.closed + 1)) (rings (next_round b.held) m.foremost) (rests (held_next b.held N m.known m.foremost))

    by : (z : Bool) → tally b.held ≡ z → map_fault (box_refusal b.held) (unless ((z, refusal.Tally) ∷ []) end) ≡ Ok o
        → is_ringing o ≡ (eqb b.held.horizon.0 (b.held.closed + 1) || eqb (count (member m.known) 32) b.held.t)
    by true z e = absurd cc
    by false z e =
        let same : end ≡ o = cc in
        let inside = inside_counts m.known N (grind arith) in
        let few : count (member N) 32 ≤ b.held.t = grind (arith, nat_tests) in
        let known : count (member m.known) 32 ≤ b.held.t = omega (arith, inside, few) in
        let ahead = b.ahead in
        ap is_ringing (sym same) ∙ rung_by _ _ _ _ ∙ grind (arith, nat_tests)

pub box_determined : {K : Type 0} → BoxIsDetermined K
box_determined a b e = λ i. record {
  held = e i;
  several = is_prop→PathP (λ j. 2 ≤ (e j).n) (λ j. le_prop) a.several b.several i;
  few = is_prop→PathP (λ j. (e j).n ≤ 32) (λ j. le_prop) a.few b.few i;
  fallible = is_prop→PathP (λ j. 1 ≤ (e j).t) (λ j. le_prop) a.fallible b.fallible i;
  survived = is_prop→PathP (λ j. (e j).t < (e j).n) (λ j. le_prop) a.survived b.survived i;
  placed = is_prop→PathP (λ j. (e j).number.0 < (e j).n) (λ j. le_prop) a.placed b.placed i;
  within = is_prop→PathP (λ j. (e j).missing.mask < 2 ^ (e j).n) (λ j. le_prop) a.within b.within i;
  present = is_prop→PathP (λ j. member (e j).missing (e j).number.0 ≡ false) (λ j. Bool-set (member (e j).missing (e j).number.0) false) a.present b.present i;
  sparse = is_prop→PathP (λ j. count (member (e j).missing) 32 ≤ (e j).t) (λ j. le_prop) a.sparse b.sparse i;
  ahead = is_prop→PathP (λ j. (e j).closed + 1 ≤ (e j).horizon.0) (λ j. le_prop) a.ahead b.ahead i;
  due = is_prop→PathP (λ j. (e j).horizon.0 ≤ (e j).t + 1) (λ j. le_prop) a.due b.due i;
}

pub listening_determined : {K : Type 0} → ListeningIsDetermined K
listening_determined a b held notes =
    let resting = box_determined a.resting b.resting held in
    (λ i. record {
      resting = resting i;
      notes = notes i;
      itself = is_prop→PathP (λ j. member (notes j).heard (resting j).held.number.0 ≡ true) (λ j. Bool-set (member (notes j).heard (resting j).held.number.0) true) a.itself b.itself i;
    })

then_mapped : {X Y D E : Type 0} (y : Y) (up : D → E) (r : Result X D) → (map_fault up r >>= (λ _. Ok y)) ≡ result_map_both (λ _. y) up r
then_mapped y up (Ok x) = refl
then_mapped y up (Err e) = refl

-- the set that a box sends can only be wrong for its hearer, in its own company
sent_set : {K : Type 0} (a : Resting K) (b : Held K) → a.held.n ≡ b.n → bad_set b (frame_of a.held) ≡ member a.held.missing b.number.0
unfolding bad_set
sent_set a b n =
    let s = a.held.missing in
    let none = none_any (λ i. member s i && leb b.n i) 32 (λ i _. let z : a.held.n ≤ i → member s i ≡ false = bit_high a.held.n s.mask i a.within in grind (arith, nat_tests)) in
    let own = a.present in
    grind arith

pub sent_told : {K : Type 0} (kind : Kind K) → FrameReadsBack kind → SentAreRead kind
unfolding frames_in
sent_told kind back [] fit = refl
sent_told kind back (f ∷ more) fit =
    let here = back f (All-head HeadFits f more fit) in
    let rest = sent_told kind back more (All-tail HeadFits f more fit) in
    ap (λ r. cons_option (result_ok r) (frames_in kind (map (frame_bytes kind) more))) here ∙ ap (λ fs. f ∷ fs) rest

module _ {K : Type 0} (kind : Kind K) where
  pub told_more : TellingAddsUp kind
  unfolding notes_after
  told_more b m [] more = refl
  told_more b m (bytes ∷ told) more = told_more b (result_unwrap_or (on_hear kind b.held m bytes) m) told more

  pub composed_heard : FrameReadsBack kind → ComposedIsHeard kind
  unfolding on_hear frame_verdict
  composed_heard back a b m n closed =
      let f = frame_of a.held in
      let beat : eqb (a.held.closed + 1) (b.held.closed + 1) ≡ true = eq-eqb _ _ (ap (λ k. k + 1) closed) in
      let known : leb b.held.n a.held.number.0 ≡ false = lt-leb b.held.n a.held.number.0 (omega (arith, a.placed)) in
      ap (λ r. map_fault (frame_refusal b.held) r >>= (λ g. map_fault (box_refusal b.held) (frame_verdict b.held m g) >>= (λ _. Ok (notes_with kind m g)))) (back f (frame_fits a))
      ∙ then_mapped (notes_with kind m f) (box_refusal b.held) (frame_verdict b.held m f)
      ∙ (λ j. result_map_both (λ _. notes_with kind m f) (box_refusal b.held) (unless
      ((not (beat j), refusal.OffBeat) ∷ (known j, refusal.Stranger) ∷ (member m.heard a.held.number.0, refusal.Heard)
      ∷ (member b.held.missing a.held.number.0, refusal.Down) ∷ (sent_set a b.held n j, refusal.Set) ∷ []) tt))

  module _ (order : IsOrder kind.leads) where
    shows : (b : Resting K) (told : List (List ℕ)) → Shows kind b (notes_after kind b.held (open_notes b.held) told) (heard_frames b.held (frames_in kind told))
    shows b told = told_shows kind order b told

    pub notes_show : NotesShowFrames kind
    notes_show b told = let s = shows b told in (s.heard, s.known, s.first)

    pub closes_by_rule : ClosesByFrames kind
    closes_by_rule b told = shown_closes kind order b _ _ (shows b told)

    pub order_free : IsOrderFree kind
    unfolding heard_frames
    order_free b told again same one =
        let p = b.held.number.0 in
        let came = frames_in kind told in
        let heard : heard_frames b.held came ≡ heard_frames b.held (frames_in kind again) = λ j q.
        cond (eqb q p) (Some (frame_of b.held)) (same_found (is_from b.held q) came (frames_in kind again) same (λ f g x y s t. one f g x y (grind arith) (grind arith) (grind (arith, nat_tests))) j) in
        let after : List (List ℕ) → Notes K = notes_after kind b.held (open_notes b.held) in
        shown_same kind order b (after told) (after again) (heard_frames b.held (frames_in kind again)) (subst (Shows kind b (after told)) heard (shows b told)) (shows b again)
