-- A round in which bytes are told one after another, accepted or refused.
use Rattle.std.proofs.Common.{◌≡◌, ℕ, ◌<◌, Bool, true, false, cond, not, ◌&&◌, eqb, List, [], ◌∷◌, is_some, Some, None, Ok, Err, Option, Result, sym, refl, ap, ◌∙◌, subst, subst₂, arith}
use Rattle.std.specs.List.{find, cons_option}
use Rattle.std.specs.Option.{option_or}
use Rattle.std.specs.Result.{result_ok, result_unwrap_or}
use Rattle.std.proofs.lemmas.Bool.{eqb-true, eq-eqb}
use Rattle.std.proofs.lemmas.Bool.Decides.{nat_tests}
use Rattle.sets.specs.Masks.{member}
use Rattle.frames.specs.declared.fault.FrameFault.{FrameFault}
use Rattle.frames.specs.declared.frame.Frame.{Frame}
use Rattle.base.specs.Results.{◌>>=◌, map_fault}
use Rattle.frames.specs.Frames.{read_frame}
use Rattle.boxes.specs.declared.states.Held.{Held}
use Rattle.boxes.specs.declared.states.Notes.{Notes}
use Rattle.boxes.specs.declared.states.Resting.{Resting}
use Rattle.boxes.specs.Boxes.{frame_of}
use Rattle.boxes.specs.BoxRounds.{open_notes, frame_refusal, box_refusal, faults, frame_verdict, notes_with, on_hear}
use Rattle.boxes.specs.ByFrames.{HeardFrames, admits, is_from, heard_frames, frames_in, notes_after}
use Rattle.sets.proofs.MemberLemmas.{member_is}
use Rattle.boxes.proofs.FirstFault.{any_fault, unless_some, unless_none}
use Rattle.boxes.proofs.NotesShowFrames.{Shows, plus, alone, opens, goes_on, or_some}
use Rattle.proposals.specs.Kinds.{Kind, IsOrder}

-- what becomes of the notes by what was read
abbrev by_read : {K : Type 0} → Kind K → Held K → Notes K → Result (Frame K) FrameFault → Notes K
by_read kind b m r = result_unwrap_or (map_fault (frame_refusal b) r >>= (λ f. map_fault (box_refusal b) (frame_verdict b m f) >>= (λ _. Ok (notes_with kind m f)))) m

-- a frame is refused just if the box may not hear it or has heard its sender
fault_is : {K : Type 0} (b : Held K) (m : Notes K) (f : Frame K) → member m.heard b.number.0 ≡ true
    → any_fault (faults b m f) ≡ not (admits b f && not (member m.heard f.sender.0))
unfolding admits
fault_is b m f itself =
    let own : eqb f.sender.0 b.number.0 ≡ true → member m.heard f.sender.0 ≡ true = λ t. ap (member m.heard) (eqb-true _ _ t) ∙ itself in
    grind (arith, nat_tests)

module _ {K : Type 0} (kind : Kind K) (b : Held K) (m : Notes K) (f : Frame K) where
  stays : any_fault (faults b m f) ≡ true → by_read kind b m (Ok f) ≡ m
  unfolding frame_verdict
  stays e = let u = unless_some (faults b m f) tt e in ap (λ r. result_unwrap_or (map_fault (box_refusal b) r >>= (λ _. Ok (notes_with kind m f))) m) u.1

  notes : any_fault (faults b m f) ≡ false → by_read kind b m (Ok f) ≡ notes_with kind m f
  unfolding frame_verdict
  notes e = ap (λ r. result_unwrap_or (map_fault (box_refusal b) r >>= (λ _. Ok (notes_with kind m f))) m) (unless_none (faults b m f) tt e)

admits_placed : {K : Type 0} (b : Held K) (f : Frame K) → admits b f ≡ true → f.sender.0 < b.n
unfolding admits
admits_placed b f e = grind (arith, nat_tests)

-- a frame that is refused, though the box may hear it, is of a box that was heard
never : (fault a m i t : Bool) → fault ≡ true → fault ≡ not (a && not m) → (t ≡ true → i ≡ false) → (a ≡ true → m ≡ i) → (t && a) ≡ false
never fault a m i t e is same heard = grind arith

-- the frames heard before, and of each other box the first that came then
abbrev after : {K : Type 0} → Held K → HeardFrames K → List (Frame K) → HeardFrames K
after b h came q = option_or (h q) (find (is_from b q) came)

or_assoc : {X : Type 0} (o p r : Option X) → option_or (option_or o p) r ≡ option_or o (option_or p r)
or_assoc None p r = refl
or_assoc (Some x) p r = refl

or_end : {X : Type 0} (o : Option X) → option_or o None ≡ o
or_end None = refl
or_end (Some x) = refl

or_alone : {X : Type 0} (t : Bool) (x : X) (p : Option X) → option_or (cond t (Some x) None) p ≡ cond t (Some x) p
or_alone true x p = refl
or_alone false x p = refl

module _ {K : Type 0} (kind : Kind K) (order : IsOrder kind.leads) (b : Resting K) where
  -- notes that show frames, the box's own among them
  abbrev Going : Notes K → HeardFrames K → Type 0
  Going m h = Shows kind b m h × (h b.held.number.0 ≡ Some (frame_of b.held))

  module _ (m : Notes K) (h : HeardFrames K) (shows : Shows kind b m h) (own : h b.held.number.0 ≡ Some (frame_of b.held)) where
    heard_is : (i : ℕ) → i < 32 → member m.heard i ≡ is_some (h i)
    heard_is i l = member_is (λ k. is_some (h k)) m.heard shows.heard i l

    faulty : (f : Frame K) → any_fault (faults b.held m f) ≡ not (admits b.held f && not (member m.heard f.sender.0))
    faulty f = fault_is b.held m f (heard_is b.held.number.0 (omega (arith, b.placed, b.few)) ∙ ap is_some own)

    -- what is refused adds nothing to what was heard
    refused_adds : (f : Frame K) → any_fault (faults b.held m f) ≡ true → (q : ℕ) (more : List (Frame K)) → after b.held h (f ∷ more) q ≡ after b.held h more q
    refused_adds f e q more = by (is_some (h q)) refl
      where
        by : (t : Bool) → is_some (h q) ≡ t → after b.held h (f ∷ more) q ≡ after b.held h more q
        by true t = or_some (h q) _ t ∙ sym (or_some (h q) _ t)
        by false t =
            let same : eqb q f.sender.0 ≡ true → is_some (h f.sender.0) ≡ false = λ u. sym (ap (λ k. is_some (h k)) (eqb-true q f.sender.0 u)) ∙ t in
            let off = never (any_fault (faults b.held m f)) (admits b.held f) (member m.heard f.sender.0) (is_some (h f.sender.0)) (eqb q f.sender.0) e (faulty f) same (λ a. heard_is f.sender.0 (omega (arith, admits_placed b.held f a, b.few))) in
            ap (λ z. option_or (h q) (cond z (Some f) (find (is_from b.held q) more))) off

    -- what is accepted adds its sender's frame
    accepted_new : (f : Frame K) → any_fault (faults b.held m f) ≡ false → (f.sender.0 < b.held.n) × (is_some (h f.sender.0) ≡ false) × (admits b.held f ≡ true)
    accepted_new f e =
        let z = faulty f in
        let a : admits b.held f ≡ true = grind arith in
        let l = admits_placed b.held f a in
        (l, sym (heard_is f.sender.0 (omega (arith, l, b.few))) ∙ grind arith, a)

    accepted_adds : (f : Frame K) → admits b.held f ≡ true → (q : ℕ) (more : List (Frame K)) → after b.held (plus h f) more q ≡ after b.held h (f ∷ more) q
    accepted_adds f e q more =
        let rest = find (is_from b.held q) more in
        let t : eqb q f.sender.0 ≡ is_from b.held q f = grind arith in
        or_assoc (h q) (cond (eqb q f.sender.0) (Some f) None) rest ∙ ap (option_or (h q)) (or_alone (eqb q f.sender.0) f rest ∙ ap (λ z. cond z (Some f) rest) t)

  -- from any frames heard, told what is read next and then the rest
  step : (r : Result (Frame K) FrameFault) (rest : List (Frame K)) (end : Notes K → Notes K) (m : Notes K) (h : HeardFrames K) → Going m h
      → ((n : Notes K) (g : HeardFrames K) → Going n g → Shows kind b (end n) (after b.held g rest))
      → Shows kind b (end (by_read kind b.held m r)) (after b.held h (cons_option (result_ok r) rest))
  step (Err e) rest end m h going on = on m h going
  step (Ok f) rest end m h (shows, own) on = by (any_fault (faults b.held m f)) refl
    where
      by : (t : Bool) → any_fault (faults b.held m f) ≡ t → Shows kind b (end (by_read kind b.held m (Ok f))) (after b.held h (f ∷ rest))
      by true t =
          subst₂ (Shows kind b) (ap end (sym (stays kind b.held m f t))) (λ j q. sym (refused_adds m h shows own f t q rest) j) (on m h (shows, own))
      by false t =
          let new = accepted_new m h shows own f t in
          let own' = or_some (h b.held.number.0) (cond (eqb b.held.number.0 f.sender.0) (Some f) None) (ap is_some own) ∙ own in
          let so = on (notes_with kind m f) (plus h f) (goes_on kind order b m h shows f new.0 new.1, own') in
          subst₂ (Shows kind b) (ap end (sym (notes kind b.held m f t))) (λ j q. accepted_adds m h shows own f new.2 q rest j) so

  module _ where
    told_on : (told : List (List ℕ)) (m : Notes K) (h : HeardFrames K) → Going m h → Shows kind b (notes_after kind b.held m told) (after b.held h (frames_in kind told))
    unfolding notes_after frames_in on_hear
    told_on [] m h (shows, own) = subst (Shows kind b m) (λ j q. sym (or_end (h q)) j) shows
    told_on (x ∷ more) m h going = step (read_frame kind x) (frames_in kind more) (λ n. notes_after kind b.held n more) m h going (told_on more)

    -- whatever was told, the notes show the frames heard
    pub told_shows : (told : List (List ℕ)) → Shows kind b (notes_after kind b.held (open_notes b.held) told) (heard_frames b.held (frames_in kind told))
    unfolding heard_frames
    told_shows told =
        let p = b.held.number.0 in
        let f = frame_of b.held in
        subst (Shows kind b (notes_after kind b.held (open_notes b.held) told)) (λ j q. or_alone (eqb q p) f (find (is_from b.held q) (frames_in kind told)) j)
        (told_on told (open_notes b.held) (alone f) (opens kind order b, ap (λ t. cond t (Some f) None) (eq-eqb p p refl)))
