-- A frame that is written reads back, and nothing else reads so.
use Rattle.std.proofs.Common.{◌≡◌, ℕ, zero, suc, ◌+◌, ◌*◌, ◌<◌, ◌≤◌, Bool, true, false, cond, ltb, List, [], ◌∷◌, ◌++◌, length, drop, Some, None, Ok, Err, Option, Result, sym, refl, ap, ◌∙◌, append_assoc, append-nil, arith, length-append}
use Rattle.std.specs.List.{AllByRecursion}
use Rattle.std.proofs.lemmas.List.{drop_all, drop_at, drop-drop}
use Rattle.std.proofs.lemmas.Bool.Decides.{nat_tests}
use Rattle.std.proofs.lemmas.Bool.{ltb-false}
use Rattle.numbers.specs.declared.codec.Decoded.{Decoded}
use Rattle.numbers.specs.Numbers.{number_bytes, numbers_bytes, read_number}
use Rattle.numbers.specs.declared.codec.NumberFault.{NumberFault}
use Rattle.numbers.proofs.Groups.{number_length}
use Rattle.numbers.proofs.SeveralWritten.{written_all-nil, written_all-cons, written_all-append}
use Rattle.numbers.proofs.NumberRoundTrip.{number_back, number_only}
use Rattle.frames.specs.declared.fault.Field.{Field}
use Rattle.frames.specs.declared.fault.Field.TheVariants as field
use Rattle.frames.specs.declared.fault.FrameFault.{FrameFault}
use Rattle.frames.specs.declared.fault.FrameFault.TheVariants.{Number, Image, Surplus}
use Rattle.frames.specs.declared.codec.Head.{Head}
use Rattle.frames.specs.declared.frame.Frame.{Frame}
use Rattle.base.specs.Results.{and_then, ◌>>=◌, map_fault}
use Rattle.frames.specs.FrameFaults.{in_field, read_field}
use Rattle.frames.specs.Frames.{frame_bytes, read_image, read_head, proposal_or_fault, read_proposal, read_frame}
use Rattle.frames.specs.FrameLaws.{HeadFits, FrameReadsBack, FrameReadsOnly, FrameRefusesNumber, FrameRefusesImage, FrameRefusesSurplus, FrameHasLength}
use Rattle.proposals.specs.Kinds.{Kind, IsKind}
use Rattle.base.specs.Limits.{number_limit, image_limit}

-- ---- reading back

-- the number stands at the place, and the rest behind it
field_back : (bytes : List ℕ) (place n : ℕ) (behind : List ℕ) (f : Field) → n < number_limit → drop place bytes ≡ number_bytes n ++ behind
    → read_field f bytes place ≡ Ok (record { value = n; next = place + length (number_bytes n) })
field_back bytes place n behind f small is = rw (number_back n place bytes behind small is) refl

pub rest_of : (bytes : List ℕ) (place : ℕ) (xs behind : List ℕ) → drop place bytes ≡ xs ++ behind → drop (place + length xs) bytes ≡ behind
rest_of bytes place xs behind is = rw (← drop-drop (length xs) place bytes, is) (drop_at xs behind (length xs) refl)

length-cons : (n : ℕ) (ns : List ℕ) → length (numbers_bytes (n ∷ ns)) ≡ length (number_bytes n) + length (numbers_bytes ns)
length-cons n ns = simp (written_all-cons, length-append)

length-nil : length (numbers_bytes []) ≡ 0
length-nil = ap length written_all-nil

-- the first of some numbers stands at the place, and the others behind it
first_of : (bytes : List ℕ) (place n : ℕ) (ns behind : List ℕ) → drop place bytes ≡ numbers_bytes (n ∷ ns) ++ behind → drop place bytes ≡ number_bytes n ++ (numbers_bytes ns ++ behind)
first_of bytes place n ns behind is = simp (is, written_all-cons, append_assoc)

image_back : (bytes ns behind : List ℕ) (place : ℕ) → AllByRecursion (λ n. n < number_limit) ns → drop place bytes ≡ numbers_bytes ns ++ behind
    → read_image bytes (length ns) place ≡ Ok (ns, place + length (numbers_bytes ns))
unfolding read_image
image_back bytes [] behind place small is = let e : place ≡ place + length (numbers_bytes []) = omega (arith, length-nil) in ap (λ p. Ok ([], p)) e
image_back bytes (n ∷ ns) behind place (low, small) is =
    let split = first_of bytes place n ns behind is in
    let on = image_back bytes ns behind (place + length (number_bytes n)) small (rest_of bytes place (number_bytes n) (numbers_bytes ns ++ behind) split) in
    let end : place + length (number_bytes n) + length (numbers_bytes ns) ≡ place + length (numbers_bytes (n ∷ ns)) = omega (arith, length-cons n ns) in
    rw (field_back bytes place n (numbers_bytes ns ++ behind) field.Image low split, on) (ap (λ p. Ok (n ∷ ns, p)) end)

-- so a proposal is judged, whose image may stand anywhere
pub proposal_judged : {K : Type 0} (kind : Kind K) (bytes ns behind : List ℕ) (place : ℕ) → AllByRecursion (λ n. n < number_limit) ns → length ns ≡ kind.size
    → drop place bytes ≡ numbers_bytes ns ++ behind → read_proposal kind bytes place ≡ proposal_or_fault place (kind.named ns) (place + length (numbers_bytes ns))
unfolding read_proposal
proposal_judged kind bytes ns behind place small long is = rw (ap (λ n. read_image bytes n place) (sym long) ∙ image_back bytes ns behind place small is) refl

head_back : (bytes : List ℕ) (r s m : ℕ) (behind : List ℕ) → r < number_limit → s < number_limit → m < number_limit → bytes ≡ number_bytes r ++ (number_bytes s ++ (number_bytes m ++ behind))
    → (k : ℕ) × (read_head bytes ≡ Ok (record { round = record { 0 = r }; sender = record { 0 = s }; missing = record { mask = m }; next = k })) × (drop k bytes ≡ behind) × (k + length behind ≡ length bytes)
unfolding read_head
head_back bytes r s m behind r32 s32 m32 is =
    let is₁ = rest_of bytes 0 (number_bytes r) (number_bytes s ++ (number_bytes m ++ behind)) is in
    let is₂ = rest_of bytes (0 + length (number_bytes r)) (number_bytes s) (number_bytes m ++ behind) is₁ in
    let is₃ = rest_of bytes (0 + length (number_bytes r) + length (number_bytes s)) (number_bytes m) behind is₂ in
    let a = field_back bytes 0 r (number_bytes s ++ (number_bytes m ++ behind)) field.Round r32 is in
    let b = field_back bytes (0 + length (number_bytes r)) s (number_bytes m ++ behind) field.Sender s32 is₁ in
    let d = field_back bytes (0 + length (number_bytes r) + length (number_bytes s)) m behind field.Set m32 is₂ in (
      0 + length (number_bytes r) + length (number_bytes s) + length (number_bytes m),
      rw (a, b, d) refl,
      is₃,
      omega (arith, ap length is, length-append (number_bytes r) (number_bytes s ++ (number_bytes m ++ behind)), length-append (number_bytes s) (number_bytes m ++ behind), length-append (number_bytes m) behind),
    )

-- ---- reading only so

pub next_inv : {X Y D E : Type 0} (up : D → E) (r : Result X D) (go : X → Result Y E) (y : Y) → and_then up r go ≡ Ok y → (x : X) × (r ≡ Ok x) × (go x ≡ Ok y)
next_inv up (Ok x) go y e = (x, refl, e)
next_inv up (Err d) go y e = absurd cc

-- the same where a fault is mapped first
mapped_inv : {X Y D E : Type 0} (up : D → E) (r : Result X D) (go : X → Result Y E) (y : Y) → (map_fault up r >>= go) ≡ Ok y → (x : X) × (r ≡ Ok x) × (go x ≡ Ok y)
mapped_inv up (Ok x) go y e = (x, refl, e)
mapped_inv up (Err d) go y e = absurd cc

unmapped : {X D E : Type 0} (up : D → E) (r : Result X D) (x : X) → map_fault up r ≡ Ok x → r ≡ Ok x
unmapped up (Ok x) y e = cc
unmapped up (Err d) y e = absurd cc

field_only : (bytes : List ℕ) (place : ℕ) (f : Field) (d : Decoded) → AllByRecursion (λ b. b < 256) bytes → read_field f bytes place ≡ Ok d → drop place bytes ≡ number_bytes d.value ++ drop d.next bytes
field_only bytes place f d all e =
    (number_only bytes place d all (unmapped (in_field f) (read_number bytes place) d e)).2

image_only : (bytes : List ℕ) (size place : ℕ) (p : List ℕ × ℕ) → AllByRecursion (λ b. b < 256) bytes → read_image bytes size place ≡ Ok p → drop place bytes ≡ numbers_bytes p.0 ++ drop p.1 bytes
unfolding read_image
image_only bytes zero place p all e = let n = written_all-nil in cc
image_only bytes (suc size) place p all e =
    let q = mapped_inv Number (read_field field.Image bytes place) _ p e in
    let t = next_inv (λ (d : FrameFault). d) (read_image bytes size q.0.next) _ p q.2 in
    let same : (q.0.value ∷ t.0.0, t.0.1) ≡ p = let z = t.2 in cc in
    let here = field_only bytes place field.Image q.0 all q.1 in
    let on = image_only bytes size q.0.next t.0 all t.1 in
    rw (← same) (here ∙ rw (on, written_all-cons, append_assoc) refl)

head_only : (bytes : List ℕ) (h : Head) → AllByRecursion (λ b. b < 256) bytes → read_head bytes ≡ Ok h
    → bytes ≡ number_bytes h.round.0 ++ (number_bytes h.sender.0 ++ (number_bytes h.missing.mask ++ drop h.next bytes))
unfolding read_head
head_only bytes h all e =
    let p = mapped_inv Number (read_field field.Round bytes 0) _ h e in
    let q = mapped_inv Number (read_field field.Sender bytes p.0.next) _ h p.2 in
    let r = mapped_inv Number (read_field field.Set bytes q.0.next) _ h q.2 in
    let one = field_only bytes 0 field.Round p.0 all p.1 in
    let two = field_only bytes p.0.next field.Sender q.0 all q.1 in
    let three = field_only bytes q.0.next field.Set r.0 all r.1 in
    let same : record { round = record { 0 = p.0.value }; sender = record { 0 = q.0.value }; missing = record { mask = r.0.value }; next = r.0.next } ≡ h = let z = r.2 in cc in
    rw (← same) (one ∙ ap (λ l. number_bytes p.0.value ++ l) (two ∙ ap (λ l. number_bytes q.0.value ++ l) three))

judged_inv : {K : Type 0} (place : ℕ) (o : Option K) (end : ℕ) (p : K × ℕ) → proposal_or_fault place o end ≡ Ok p → (o ≡ Some p.0) × (end ≡ p.1)
judged_inv place (Some x) end p e = (cc, cc)
judged_inv place None end p e = absurd cc

pub proposal_only : {K : Type 0} (kind : Kind K) → IsKind kind
    → (bytes : List ℕ) (place : ℕ) (p : K × ℕ) → AllByRecursion (λ b. b < 256) bytes → read_proposal kind bytes place ≡ Ok p → drop place bytes ≡ numbers_bytes (kind.image p.0) ++ drop p.1 bytes
unfolding read_proposal
proposal_only kind laws bytes place p all e =
    let i = next_inv (λ (d : FrameFault). d) (read_image bytes kind.size place) _ p e in
    let o = judged_inv place (kind.named i.0.0) i.0.1 p i.2 in
    image_only bytes kind.size place i.0 all i.1 ∙ ap (λ ns. numbers_bytes ns ++ drop i.0.1 bytes) (sym (laws.only i.0.0 p.0 o.0)) ∙ ap (λ k. numbers_bytes (kind.image p.0) ++ drop k bytes) o.1

-- nothing follows, and the frame is the one that was made
end_inv : {K : Type 0} (b : Bool) (fault : FrameFault) (x f : Frame K) → cond b (Err fault) (Ok x) ≡ Ok f → (b ≡ false) × (x ≡ f)
end_inv true fault x f e = absurd cc
end_inv false fault x f e = (refl, cc)

-- the numbers of a head and of an image, and what follows, one after another
pub fields_are : (r s m : ℕ) (ns behind : List ℕ) → numbers_bytes (r ∷ s ∷ m ∷ ns) ++ behind ≡ number_bytes r ++ (number_bytes s ++ (number_bytes m ++ (numbers_bytes ns ++ behind)))
unfolding numbers_bytes
fields_are r s m ns behind = simp append_assoc

length_fields : (r s m : ℕ) (ns : List ℕ) → length (numbers_bytes (r ∷ s ∷ m ∷ ns)) ≡ length (numbers_bytes (r ∷ s ∷ m ∷ [])) + length (numbers_bytes ns)
length_fields r s m ns = rw (written_all-append (r ∷ s ∷ m ∷ []) ns) (length-append _ _)

-- such bytes are judged by what the image names and by what follows
module _ {K : Type 0} (kind : Kind K) (r s m : ℕ) (ns behind : List ℕ) (all : AllByRecursion (λ n. n < number_limit) (r ∷ s ∷ m ∷ ns)) (long : length ns ≡ kind.size) where
  judges : (k : ℕ) × (read_head (numbers_bytes (r ∷ s ∷ m ∷ ns) ++ behind) ≡ Ok (record { round = record { 0 = r }; sender = record { 0 = s }; missing = record { mask = m }; next = k }))
      × (read_proposal kind (numbers_bytes (r ∷ s ∷ m ∷ ns) ++ behind) k ≡ proposal_or_fault k (kind.named ns) (length (numbers_bytes (r ∷ s ∷ m ∷ ns)))) × (k ≡ length (numbers_bytes (r ∷ s ∷ m ∷ [])))
  judges =
      let bytes = numbers_bytes (r ∷ s ∷ m ∷ ns) ++ behind in
      let p = head_back bytes r s m (numbers_bytes ns ++ behind) all.0 all.1.0 all.1.1.0 (fields_are r s m ns behind) in
      let i = proposal_judged kind bytes ns behind p.0 all.1.1.1 long p.2 in
      let k : p.0 ≡ length (numbers_bytes (r ∷ s ∷ m ∷ [])) = omega (arith, p.3, length-append (numbers_bytes (r ∷ s ∷ m ∷ ns)) behind, length-append (numbers_bytes ns) behind, length_fields r s m ns) in
      let end : p.0 + length (numbers_bytes ns) ≡ length (numbers_bytes (r ∷ s ∷ m ∷ ns)) = omega (arith, k, length_fields r s m ns) in
      (p.0, p.1, i ∙ ap (λ e. proposal_or_fault p.0 (kind.named ns) e) end, k)

-- ---- numbers that are refused

field_stop : (f : Field) (bytes : List ℕ) (place : ℕ) (e : NumberFault) → read_number bytes place ≡ Err e → read_field f bytes place ≡ Err (record { field = f; fault = e })
field_stop f bytes place e is = rw is refl

-- a number further on is refused, after those that stand before it
image_stop : (bytes ns behind : List ℕ) (place size : ℕ) (e : NumberFault) → AllByRecursion (λ n. n < number_limit) ns → length ns < size → drop place bytes ≡ numbers_bytes ns ++ behind
    → read_number bytes (place + length (numbers_bytes ns)) ≡ Err e → read_image bytes size place ≡ Err (Number (record { field = field.Image; fault = e }))
unfolding read_image
image_stop bytes ns behind place zero e small few is stop = absurd (omega arith)
image_stop bytes [] behind place (suc size) e small few is stop =
    let here : place + length (numbers_bytes []) ≡ place = omega (arith, length-nil) in
    rw (field_stop field.Image bytes place e (rw here at stop)) refl
image_stop bytes (n ∷ ns) behind place (suc size) e (low, small) few is stop =
    let split = first_of bytes place n ns behind is in
    let there : place + length (numbers_bytes (n ∷ ns)) ≡ place + length (number_bytes n) + length (numbers_bytes ns) = omega (arith, length-cons n ns) in
    let on = image_stop bytes ns behind (place + length (number_bytes n)) size e small (omega arith) (rest_of bytes place (number_bytes n) (numbers_bytes ns ++ behind) split) (rw there at stop) in
    rw (field_back bytes place n (numbers_bytes ns ++ behind) field.Image low split, on) refl

pub wide : (ns : List ℕ) → AllByRecursion (λ n. n < image_limit) ns → AllByRecursion (λ n. n < number_limit) ns
wide [] all = tt
wide (n ∷ ns) (low, all) = (omega arith, wide ns all)

-- a number of an image takes one to four bytes
image_length : (ns : List ℕ) → AllByRecursion (λ n. n < image_limit) ns → (length ns ≤ length (numbers_bytes ns)) × (length (numbers_bytes ns) ≤ 4 * length ns)
image_length [] all = (omega (arith, length-nil), omega (arith, length-nil))
image_length (n ∷ ns) (low, all) =
    let rest = image_length ns all in
    let here = number_length 3 n low in
    (omega (arith, rest.0, here.0, length-cons n ns), omega (arith, rest.1, here.1, length-cons n ns))

module _ {K : Type 0} (kind : Kind K) where
  pub frame_image : FrameRefusesImage kind
  frame_image r s m ns behind all long none =
      let j = judges kind r s m ns behind all long in
      rw (j.1, j.2, none) (ap (λ k. Err (Image k)) j.3)

  pub frame_number : FrameRefusesNumber kind
  unfolding read_head read_proposal
  frame_number [] behind e small few stop =
      let bytes = numbers_bytes [] ++ behind in
      rw (field_stop field.Round bytes 0 e (rw length-nil at stop)) refl
  frame_number (r ∷ []) behind e (r32, small) few stop =
      let bytes = numbers_bytes (r ∷ []) ++ behind in
      let at1 : length (numbers_bytes (r ∷ [])) ≡ 0 + length (number_bytes r) = omega (arith, length-cons r [], length-nil) in
      rw (field_back bytes 0 r _ field.Round r32 (first_of bytes 0 r [] behind refl), field_stop field.Sender bytes (0 + length (number_bytes r)) e (rw at1 at stop)) refl
  frame_number (r ∷ s ∷ []) behind e (r32, (s32, small)) few stop =
      let bytes = numbers_bytes (r ∷ s ∷ []) ++ behind in
      let is₀ = first_of bytes 0 r (s ∷ []) behind refl in
      let is₁ = first_of bytes (0 + length (number_bytes r)) s [] behind (rest_of bytes 0 (number_bytes r) _ is₀) in
      let at2 : length (numbers_bytes (r ∷ s ∷ [])) ≡ 0 + length (number_bytes r) + length (number_bytes s) = omega (arith, length-cons r (s ∷ []), length-cons s [], length-nil) in
      rw (field_back bytes 0 r _ field.Round r32 is₀, field_back bytes (0 + length (number_bytes r)) s _ field.Sender s32 is₁, field_stop field.Set bytes (0 + length (number_bytes r) + length (number_bytes s)) e (rw at2 at stop)) refl
  frame_number (r ∷ s ∷ m ∷ ns) behind e (r32, (s32, (m32, small))) few stop =
      let bytes = numbers_bytes (r ∷ s ∷ m ∷ ns) ++ behind in
      let p = head_back bytes r s m (numbers_bytes ns ++ behind) r32 s32 m32 (fields_are r s m ns behind) in
      let there : length (numbers_bytes (r ∷ s ∷ m ∷ ns)) ≡ p.0 + length (numbers_bytes ns) = omega (arith, p.3, length-append (numbers_bytes (r ∷ s ∷ m ∷ ns)) behind, length-append (numbers_bytes ns) behind) in
      rw (p.1, image_stop bytes ns behind p.0 kind.size e small (omega arith) p.2 (rw there at stop)) refl

  module _ (laws : IsKind kind) where
    -- a frame, and what follows
    frame_then : (f : Frame K) (behind : List ℕ) → HeadFits f
        → read_frame kind (frame_bytes kind f ++ behind) ≡ cond (ltb (length (frame_bytes kind f)) (length (frame_bytes kind f ++ behind))) (Err (Surplus (length (frame_bytes kind f)))) (Ok f)
    frame_then f behind (r32, s32, m32) =
        let x = f.estimate in
        let j = judges kind f.round.0 f.sender.0 f.missing.mask (kind.image x) behind (r32, (s32, (m32, wide (kind.image x) (laws.small x)))) (laws.long x) in
        rw (j.1, j.2, laws.back x) refl

    pub frame_back : FrameReadsBack kind
    frame_back f fits =
        let then = frame_then f [] fits in
        grind (arith, nat_tests, append-nil)

    pub frame_surplus : FrameRefusesSurplus kind
    frame_surplus f b behind fits =
        let then = frame_then f (b ∷ behind) fits in
        grind (arith, nat_tests, length-append)

    pub frame_length : FrameHasLength kind
    frame_length f a b c r s m =
        let x = f.estimate in
        let ns = kind.image x in
        let round = number_length a f.round.0 r in
        let sender = number_length b f.sender.0 s in
        let missing = number_length c f.missing.mask m in
        let rest = image_length ns (laws.small x) in
        let all : length (frame_bytes kind f) ≡ length (number_bytes f.round.0) + length (number_bytes f.sender.0) + length (number_bytes f.missing.mask) + length (numbers_bytes ns) =
        omega (arith, length-cons f.round.0 (f.sender.0 ∷ f.missing.mask ∷ ns), length-cons f.sender.0 (f.missing.mask ∷ ns), length-cons f.missing.mask ns)
        in
        (omega (arith, all, round.0, sender.0, missing.0, rest.0, laws.long x), omega (arith, all, round.1, sender.1, missing.1, rest.1, laws.long x))

  pub frame_only : IsKind kind → FrameReadsOnly kind
  frame_only laws bytes f all e =
      let p = next_inv (λ (d : FrameFault). d) (read_head bytes) _ f e in
      let q = next_inv (λ (d : FrameFault). d) (read_proposal kind bytes p.0.next) _ f p.2 in
      let w = end_inv (ltb q.0.1 (length bytes)) _ _ f q.2 in
      let over = ltb-false q.0.1 (length bytes) w.0 in
      let rest : drop p.0.next bytes ≡ numbers_bytes (kind.image q.0.0) = proposal_only kind laws bytes p.0.next q.0 all q.1 ∙ rw (drop_all q.0.1 bytes over, append-nil) refl in
      rw (← w.1) (head_only bytes p.0 all p.1 ∙ rw (rest, written_all-cons, written_all-cons, written_all-cons) refl)
