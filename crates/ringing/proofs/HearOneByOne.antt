-- A box hears the others one after another and closes as the rule says.
use Rattle.base.specs.Results.{refused_with}
use Rattle.base.specs.declared.refused.Refused.{Refused}
use Rattle.std.proofs.Common.{◌≡◌, ℕ, ◌+◌, ◌<◌, Bool, true, false, cond, ◌||◌, eqb, ltb, ◌⊎◌, is_some, Some, None, Ok, Option, option_map, Result, refl, sym, ap, ◌∙◌, subst, inl, inr, arith}
use Rattle.std.specs.List.{slice_get}
use Rattle.std.specs.Option.{option_or}
use Rattle.std.specs.Result.{result_map_both}
use Rattle.std.proofs.lemmas.Bool.{cases_Bool, cases_eq, eqb-true}
use Rattle.std.proofs.lemmas.Bool.Decides.{nat_tests}
use Rattle.std.proofs.lemmas.Option.{slice_get_within}
use Rattle.sets.specs.declared.set.BoxSet.{BoxSet}
use Rattle.sets.specs.Masks.{member}
use Rattle.sets.proofs.MemberLemmas.{member_is, member_below}
use Rattle.frames.specs.declared.frame.Frame.{Frame}
use Rattle.base.specs.Results.{map_fault}
use Rattle.frames.specs.Frames.{frame_bytes}
use Rattle.boxes.specs.declared.states.Held.{Held}
use Rattle.boxes.specs.declared.states.Notes.{Notes}
use Rattle.boxes.specs.declared.fault.BoxFault.{BoxFault}
use Rattle.boxes.specs.declared.states.Closed.{Closed}
use Rattle.boxes.specs.declared.states.Listening.{Listening}
use Rattle.boxes.specs.declared.states.Resting.{Resting}
use Rattle.boxes.specs.Boxes.{frame_of}
use Rattle.boxes.specs.BoxFaults.{refusal_of}
use Rattle.boxes.specs.BoxRounds.{box_refusal, open_notes, notes_with, on_close, outcome}
use Rattle.boxes.specs.ByFrames.{HeardFrames, outcome_by_frames}
use Rattle.boxes.proofs.NotesShowFrames.{Shows, alone, plus, opens, goes_on, shown_closes}
use Rattle.wire.specs.WireState.{WireState, IsWellFormed, is_in, is_lost, heard_frame}
use Rattle.machine.specs.Places.{PlaceState, at_rest, down, rung}
use Rattle.machine.specs.State.{State, hears_on}
use Rattle.machine.specs.RoundCall.{frame_at, sent_frame, frames_heard_by}
use Rattle.machine.specs.MachineLaws.{RefusesNothing}
use Rattle.machine.proofs.RoundNotRefused.{bytes_of}
use Rattle.ringing.specs.Exchanges.{InRound, notes_when_told}
use Rattle.proposals.specs.Kinds.{Kind, IsOrder}

-- the frames that box p hears of the boxes below m, and its own
abbrev pub heard_below : {K : Type 0} → State K → ℕ → ℕ → HeardFrames K
heard_below s p m i = cond (ltb i m || eqb i p) (frames_heard_by s p i) None

-- a frame that is sent is of the box at that place
sender_of : {K : Type 0} (o : Option (PlaceState K)) (f : Frame K) (q : ℕ) → ((c : Held K) → o ≡ Some (at_rest c) → c.number.0 ≡ q)
    → frame_at o ≡ Some f → f.sender.0 ≡ q
sender_of None f q own e = absurd (grind arith)
sender_of (Some (at_rest c)) f q own e = let same : frame_of c ≡ f = cc in ap (λ g. g.sender.0) (sym same) ∙ own c refl
sender_of (Some (down r)) f q own e = absurd (grind arith)
sender_of (Some (rung x)) f q own e = absurd (grind arith)

when_some : {X : Type 0} (t : Bool) (o : Option X) (x : X) → cond t o None ≡ Some x → (t ≡ true) × (o ≡ Some x)
when_some true o x e = (refl, e)
when_some false o x e = absurd (grind arith)

pub ok_same : {X E : Type 0} (x y : X) (r : Result X E) → r ≡ Ok x → r ≡ Ok y → x ≡ y
ok_same x y r e d = cc

or_none : {X : Type 0} (o : Option X) → option_or o None ≡ o
or_none None = refl
or_none (Some x) = refl

module _ {K : Type 0} (kind : Kind K) (order : IsOrder kind.leads)
    (w : WireState) (well : IsWellFormed w) (s : State K) (r : InRound kind w s) (b : Resting K) (at : slice_get s.row b.held.number.0 ≡ Some (at_rest b.held)) where
  formed : IsWellFormed s.wire
  formed = subst IsWellFormed (sym r.wire) well

  goes : RefusesNothing kind s
  goes = r.goes

  abbrev p : ℕ
  p = b.held.number.0

  itself_up : (b.held.n ≡ s.wire.n) × (member s.wire.up p ≡ true)
  itself_up = let o = goes.own p b.held at in (o.1, o.2)

  never_lost : is_lost s.wire p p ≡ false
  never_lost = by (s.wire.lost p) refl
    where
      by : (o : Option BoxSet) → s.wire.lost p ≡ o → is_in p o ≡ false
      by None e = refl
      by (Some x) e = (formed.falling p x e).2

  heard_own : frames_heard_by s p p ≡ Some (frame_of b.held)
  heard_own =
      let t : hears_on s.wire p p ≡ true = (let u = itself_up.1 in let l = never_lost in grind arith) in
      ap (λ t. cond t (sent_frame s p) None) t ∙ ap frame_at at

  heard_bytes : (q : ℕ) → heard_frame w p q ≡ option_map (frame_bytes kind) (frames_heard_by s p q)
  heard_bytes q = ap (λ x. heard_frame x p q) (sym r.wire) ∙ ap (λ o. cond (is_lost s.wire p q) None o) (r.carries q) ∙ bytes_of (frame_bytes kind) (is_lost s.wire p q) (member s.wire.up q) (sent_frame s q)

  abbrev below : ℕ → HeardFrames K
  below m = heard_below s p m

  pub start : Shows kind b (open_notes b.held) (below 0)
  start = subst (Shows kind b (open_notes b.held)) (λ j i. same i (cases_Bool (eqb i p)) j) (opens kind order b)
    where
      same : (i : ℕ) → (eqb i p ≡ true) ⊎ (eqb i p ≡ false) → alone (frame_of b.held) i ≡ below 0 i
      same i (inl e) =
          let t : (ltb i 0 || eqb i p) ≡ true = grind (arith, nat_tests) in
          ap (λ t. cond t (Some (frame_of b.held)) None) e ∙ sym heard_own ∙ ap (frames_heard_by s p) (sym (eqb-true i p e)) ∙ ap (λ t. cond t (frames_heard_by s p i) None) (sym t)
      same i (inr e) =
          let t : (ltb i 0 || eqb i p) ≡ false = grind (arith, nat_tests) in
          ap (λ t. cond t (Some (frame_of b.held)) None) e ∙ ap (λ t. cond t (frames_heard_by s p i) None) (sym t)

  -- nothing more of the box itself
  pub skips : (q : ℕ) (m : Notes K) → q ≡ p → Shows kind b m (below q) → Shows kind b m (below (q + 1))
  skips q m same = subst (Shows kind b m) (λ j i. ap (λ t. cond t (frames_heard_by s p i) None) (let t : (ltb i q || eqb i p) ≡ (ltb i (q + 1) || eqb i p) = grind (arith, nat_tests) in t) j)

  module _ (q : ℕ) (m : Notes K) (l : q < w.n) (other : q ≡ p → ⊥) (shows : Shows kind b m (below q)) where
    -- one box more is heard, and it is not refused
    hears_more : (n : Notes K) × (notes_when_told kind b.held m (heard_frame w p q) ≡ Ok n) × Shows kind b n (below (q + 1))
    hears_more = by (frames_heard_by s p q) refl
      where
        new : is_some (below q q) ≡ false
        new = ap (λ t. is_some (cond t (frames_heard_by s p q) None)) (let t : (ltb q q || eqb q p) ≡ false = grind (arith, nat_tests) in t)

        same_at : (i : ℕ) → (i ≡ q → ⊥) → below q i ≡ below (q + 1) i
        same_at i off = ap (λ t. cond t (frames_heard_by s p i) None) (let t : (ltb i q || eqb i p) ≡ (ltb i (q + 1) || eqb i p) = grind (arith, nat_tests) in t)

        nothing : frames_heard_by s p q ≡ None → (i : ℕ) → below q i ≡ below (q + 1) i
        nothing e i = by (cases_eq i q)
          where
            by : (i ≡ q) ⊎ (i ≡ q → ⊥) → below q i ≡ below (q + 1) i
            by (inl at_q) =
                let none : frames_heard_by s p i ≡ None = ap (frames_heard_by s p) at_q ∙ e in
                let t : (ltb i q || eqb i p) ≡ false = grind (arith, nat_tests) in
                let u : (ltb i (q + 1) || eqb i p) ≡ true = grind (arith, nat_tests) in
                ap (λ t. cond t (frames_heard_by s p i) None) t ∙ sym none ∙ ap (λ t. cond t (frames_heard_by s p i) None) (sym u)
            by (inr off) = same_at i off

        more : (f : Frame K) → frames_heard_by s p q ≡ Some f → f.sender.0 ≡ q → (i : ℕ) → plus (below q) f i ≡ below (q + 1) i
        more f e is i = by (cases_eq i q)
          where
            by : (i ≡ q) ⊎ (i ≡ q → ⊥) → plus (below q) f i ≡ below (q + 1) i
            by (inl at_q) =
                let t : (ltb i q || eqb i p) ≡ false = grind (arith, nat_tests) in
                let u : (ltb i (q + 1) || eqb i p) ≡ true = grind (arith, nat_tests) in
                let v : eqb i f.sender.0 ≡ true = grind (arith, nat_tests) in
                (λ j. option_or (cond (t j) (frames_heard_by s p i) None) (cond (v j) (Some f) None)) ∙ sym (ap (frames_heard_by s p) at_q ∙ e) ∙ ap (λ t. cond t (frames_heard_by s p i) None) (sym u)
            by (inr off) =
                let v : eqb i f.sender.0 ≡ false = grind (arith, nat_tests) in
                ap (λ t. option_or (below q i) (cond t (Some f) None)) v ∙ or_none (below q i) ∙ same_at i off

        by : (o : Option (Frame K)) → frames_heard_by s p q ≡ o
            → (n : Notes K) × (notes_when_told kind b.held m (heard_frame w p q) ≡ Ok n) × Shows kind b n (below (q + 1))
        by None e =
            (m, ap (notes_when_told kind b.held m) (heard_bytes q ∙ ap (option_map (frame_bytes kind)) e), subst (Shows kind b m) (λ j i. nothing e i j) shows)
        by (Some f) e =
            let sender = sender_of (slice_get s.row q) f q (λ c here. (goes.own q c here).0) (when_some (hears_on s.wire p q) (sent_frame s q) f e).1 in
            let few : q < 32 = (let n = itself_up.0 in let e = ap (λ x. x.n) r.wire in omega (arith, b.few, e)) in
            let unheard : member m.heard q ≡ false = member_is (λ i. is_some (below q i)) m.heard shows.heard q few ∙ new in
            let hears = goes.hears p q b.held f at e m unheard in (
              notes_with kind m f,
              ap (notes_when_told kind b.held m) (heard_bytes q ∙ ap (option_map (frame_bytes kind)) e) ∙ ap (result_map_both (λ n. n) refusal_of) hears,
              subst (Shows kind b (notes_with kind m f)) (λ j i. more f e sender i j)
                  (goes_on kind order b m (below q) shows f (let n = itself_up.0 in let e = ap (λ x. x.n) r.wire in omega arith) (ap (λ i. is_some (below q i)) sender ∙ new)),
            )

    own_placed : (x : Resting K) → x ≡ b → x.held.number.0 < w.n
    own_placed x e =
        let l = slice_get_within s.row p (at_rest b.held) at in
        let n = goes.places in
        let k = ap (λ x. x.n) r.wire in
        let same = ap (λ y. y.held.number.0) e in
        omega arith

    -- the same of a box that is known to be it
    pub tells_more : (x : Resting K) → x ≡ b
        → (n : Notes K) × (x.held.number.0 < w.n) × (notes_when_told kind x.held m (heard_frame w x.held.number.0 q) ≡ Ok n)
        × Shows kind b n (below (q + 1))
    tells_more x e = (hears_more.0, own_placed x e, ap (λ y. notes_when_told kind y.held m (heard_frame w y.held.number.0 q)) e ∙ hears_more.1, hears_more.2)

  -- when all were heard it closes as the rule says
  closes_so : (m : Notes K) → Shows kind b m (below w.n) → on_close b.held m ≡ Ok (outcome_by_frames kind b.held (frames_heard_by s p))
  closes_so m shows =
      shown_closes kind order b m (frames_heard_by s p) (subst (Shows kind b m) (λ j i. (ap (λ x. below x.n i) (sym r.wire) ∙ all i (cases_Bool (ltb i s.wire.n))) j) shows)
      ∙ ap (map_fault (box_refusal b.held)) (goes.closes p b.held at)
    where
      all : (i : ℕ) → (ltb i s.wire.n ≡ true) ⊎ (ltb i s.wire.n ≡ false) → below s.wire.n i ≡ frames_heard_by s p i
      all i (inl e) = ap (λ t. cond t (frames_heard_by s p i) None) (let t : (ltb i s.wire.n || eqb i p) ≡ true = grind arith in t)
      all i (inr e) =
          let l = member_below s.wire.n s.wire.up p formed.up_within itself_up.1 in
          let k = member_below s.wire.n s.wire.up i formed.up_within in
          let t : (ltb i s.wire.n || eqb i p) ≡ false = grind (arith, nat_tests) in
          let u : hears_on s.wire p i ≡ false = grind (arith, nat_tests) in
          ap (λ t. cond t (frames_heard_by s p i) None) t ∙ ap (λ t. cond t (sent_frame s i) None) (sym u)

  -- so does a listening box that is known to be it
  pub closed_so : (l : Listening K) (q : ℕ) (a : Result (Closed K) (Refused (Listening K) BoxFault)) → l.resting ≡ b → q ≡ w.n
      → Shows kind b l.notes (below q)
      → result_map_both outcome (λ e. e) a ≡ map_fault (refused_with l) (on_close l.resting.held l.notes)
      → result_map_both outcome (λ e. e) a ≡ Ok (outcome_by_frames kind b.held (frames_heard_by s p))
  closed_so l q a same all shows closes =
      closes ∙ ap (map_fault (refused_with l)) (ap (λ x. on_close x.held l.notes) same ∙ closes_so l.notes (subst (λ i. Shows kind b l.notes (below i)) all shows))
