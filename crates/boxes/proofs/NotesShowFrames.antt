-- What the notes of a listening box show of the frames heard.
use Rattle.std.proofs.Common.{◌≡◌, ℕ, ◌<◌, Bool, true, false, cond, not, ◌&&◌, ◌||◌, eqb, ltb, is_some, Some, None, Option, unwrap_or, sym, refl, ap, ◌∙◌, inl, inr, ⊎_elim, arith}
use Rattle.std.specs.Option.{option_or}
use Rattle.std.proofs.lemmas.Bool.{eqb-true, eq-eqb, or_cases}
use Rattle.base.specs.Counts.{any}
use Rattle.sets.specs.Masks.{member, set_of}
use Rattle.sets.proofs.BitLemmas.{mask_of-bit}
use Rattle.base.proofs.CountLemmas.{any_ext, any-or, any_point}
use Rattle.proposals.specs.Orders.{preferred}
use Rattle.proposals.proofs.ForemostLemmas.{foremost_only, foremost_more}
use Rattle.frames.specs.declared.frame.Frame.{Frame}
use Rattle.base.specs.Results.{map_fault}
use Rattle.boxes.specs.declared.states.Notes.{Notes}
use Rattle.boxes.specs.declared.states.Resting.{Resting}
use Rattle.boxes.specs.Boxes.{frame_of}
use Rattle.boxes.specs.BoxRounds.{open_notes, notes_with, unheard_boxes, box_refusal, close_with, on_close}
use Rattle.boxes.specs.ByFrames as rule
use Rattle.boxes.specs.ByFrames.{HeardFrames, estimate_in, boxes_not_heard, boxes_told_missing, first_estimate, close_by_frames}
use Rattle.sets.proofs.BitLemmas.{set_ext}
use Rattle.sets.proofs.MemberLemmas.{member_is}
use Rattle.boxes.proofs.SentFrame.{mask_fits}
use Rattle.proposals.specs.Kinds.{Kind, IsOrder}

-- frames heard, and one more from a box not heard before
abbrev pub plus : {K : Type 0} → HeardFrames K → Frame K → HeardFrames K
plus h f q = option_or (h q) (cond (eqb q f.sender.0) (Some f) None)

-- a round in which only the box itself was heard
abbrev pub alone : {K : Type 0} → Frame K → HeardFrames K
alone f q = cond (eqb q f.sender.0) (Some f) None

-- the notes are those of the frames heard
pub record Shows {K : Type 0} (kind : Kind K) (b : Resting K) (m : Notes K) (h : HeardFrames K) : Type 0 where
  pub heard : m.heard ≡ set_of (λ i. is_some (h i))
  pub known : m.known ≡ boxes_told_missing b.held h
  pub first : first_estimate b.held h kind ≡ Some m.foremost

is_some-plus : {X : Type 0} (o : Option X) (t : Bool) (x : X) → is_some (option_or o (cond t (Some x) None)) ≡ (is_some o || t)
is_some-plus None true x = refl
is_some-plus None false x = refl
is_some-plus (Some y) t x = refl

pub is_some-when : {X : Type 0} (t : Bool) (x : X) → is_some (cond t (Some x) None) ≡ t
is_some-when true x = refl
is_some-when false x = refl

pub tells-when : {K : Type 0} (t : Bool) (f : Frame K) (i : ℕ) → rule.tells_missing (cond t (Some f) None) i ≡ (t && member f.missing i)
tells-when true f i = refl
tells-when false f i = refl

-- where t holds, nothing was heard
tells-plus : {K : Type 0} (o : Option (Frame K)) (t : Bool) (f : Frame K) (i : ℕ) → (t ≡ true → is_some o ≡ false)
    → rule.tells_missing (option_or o (cond t (Some f) None)) i ≡ (rule.tells_missing o i || (t && member f.missing i))
tells-plus None t f i new = tells-when t f i
tells-plus (Some g) t f i new = let n = new in grind arith

estimate-when : {K : Type 0} (t : Bool) (f : Frame K) → estimate_in f.estimate (cond t (Some f) None) ≡ f.estimate
estimate-when true f = refl
estimate-when false f = refl

-- what was heard stays
pub or_some : {X : Type 0} (o p : Option X) → is_some o ≡ true → option_or o p ≡ o
or_some None p e = absurd (grind arith)
or_some (Some x) p e = refl

pub or_none : {X : Type 0} (o p : Option X) → is_some o ≡ false → option_or o p ≡ p
or_none None p e = refl
or_none (Some x) p e = absurd (grind arith)

module _ {K : Type 0} (kind : Kind K) (order : IsOrder kind.leads) (b : Resting K) where
  -- as a round is opened
  pub opens : Shows kind b (open_notes b.held) (alone (frame_of b.held))
  opens =
      let p = b.held.number.0 in
      let f = frame_of b.held in
      record {
        heard = set_ext _ _ (λ i _. sym (is_some-when (eqb i p) f));
        known =
            sym (ap (λ m. record { mask = m }) (mask_of-bit 32 b.held.missing.mask (mask_fits b)))
            ∙ set_ext _ _ (λ i _. sym (any_ext _ (λ q. eqb q p && member b.held.missing i) b.held.n (λ q _. tells-when (eqb q p) f i) ∙ any_point p b.held.n (member b.held.missing i) b.placed));
        first =
            foremost_only kind.leads order (λ q. is_some (alone f q)) (λ q. estimate_in b.held.estimate (alone f q)) b.held.n b.held.estimate
            (p, b.placed, is_some-when (eqb p p) f ∙ eq-eqb p p refl, sym (estimate-when (eqb p p) f))
            (λ k _ _. ap (kind.leads b.held.estimate) (estimate-when (eqb k p) f) ∙ ⊎_elim (λ e. e) (λ e. e) (order.total b.held.estimate b.held.estimate));
      }

  -- one frame more
  module _ (m : Notes K) (h : HeardFrames K) (shows : Shows kind b m h) (f : Frame K) (placed : f.sender.0 < b.held.n) (new : is_some (h f.sender.0) ≡ false) where
    here : plus h f f.sender.0 ≡ Some f
    here = or_none (h f.sender.0) _ new ∙ ap (λ t. cond t (Some f) None) (eq-eqb f.sender.0 f.sender.0 refl)

    pub goes_on : Shows kind b (notes_with kind m f) (plus h f)
    goes_on =
        let q = f.sender.0 in
        record {
          heard = set_ext _ _ (λ i l. ap (λ t. t || eqb i q) (member_is _ m.heard shows.heard i l) ∙ sym (is_some-plus (h i) (eqb i q) f));
          known = set_ext _ _ (λ i l.
              ap (λ t. t || member f.missing i) (member_is _ m.known shows.known i l)
              ∙ sym (
              any_ext _ (λ k. rule.tells_missing (h k) i || (eqb k q && member f.missing i)) b.held.n (λ k _. tells-plus (h k) (eqb k q) f i (λ t. ap (λ j. is_some (h j)) (eqb-true k q t) ∙ new))
              ∙ any-or _ _ b.held.n
              ∙ ap (λ t. any (λ k. rule.tells_missing (h k) i) b.held.n || t) (any_point q b.held.n (member f.missing i) placed)
              ));
          first =
              foremost_more kind.leads order
              (λ k. is_some (h k)) (λ k. is_some (plus h f k)) (λ k. estimate_in b.held.estimate (h k)) (λ k. estimate_in b.held.estimate (plus h f k)) b.held.n q placed
              (ap is_some here)
              (λ k old. let e = or_some (h k) (cond (eqb k q) (Some f) None) old in (ap is_some e ∙ old, ap (estimate_in b.held.estimate) e))
              (λ k p. ⊎_elim inl (λ t. inr (eqb-true k q t)) (or_cases (is_some (h k)) (eqb k q) (sym (is_some-plus (h k) (eqb k q) f) ∙ p)))
              m.foremost shows.first
              ∙ ap (λ o. Some (preferred kind.leads (Some m.foremost) (estimate_in b.held.estimate o))) here;
        }

  -- the round is then closed as the rule says
  pub shown_closes : (m : Notes K) (h : HeardFrames K) → Shows kind b m h → on_close b.held m ≡ map_fault (box_refusal b.held) (close_by_frames kind b.held h)
  unfolding on_close close_by_frames
  shown_closes m h s =
      let u : unheard_boxes b.held m ≡ boxes_not_heard b.held h = set_ext _ _ (λ i l. ap (λ t. ltb i b.held.n && not t) (member_is _ m.heard s.heard i l)) in
      let e : m.foremost ≡ unwrap_or (first_estimate b.held h kind) b.held.estimate = rw s.first refl in
      (λ j. map_fault (box_refusal b.held) (close_with b.held (u j) (s.known j) (e j)))

  -- the frames heard determine the notes
  pub shown_same : (m n : Notes K) (h : HeardFrames K) → Shows kind b m h → Shows kind b n h → m ≡ n
  shown_same m n h s t =
      let e : m.foremost ≡ n.foremost = (let p = s.first in let q = t.first in cc) in
      λ j. record { heard = (s.heard ∙ sym t.heard) j; known = (s.known ∙ sym t.known) j; foremost = e j }
