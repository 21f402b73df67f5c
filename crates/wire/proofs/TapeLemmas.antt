-- The bytes of a tape, and the sum of the lengths of the frames that stand there.
use Rattle.std.proofs.Common.{◌≡◌, ℕ, zero, suc, ◌+◌, ◌-◌, ◌*◌, ◌<◌, ◌≤◌, Bool, true, false, ◌||◌, eqb, leb, set, List, [], ◌++◌, length, drop, slice_range, refl, sym, ap, subst, ◌∙◌, ◌⊎◌, inl, inr, not-suc-le-zero, le_of_suc-le-suc, suc-le-suc, zero-le, arith}
use Rattle.std.proofs.lemmas.Bool.Decides.{nat_tests}
use Rattle.std.proofs.lemmas.List.{length-append, take-append-le, drop_at}
use Rattle.std.proofs.Math.Seq.{take-length}
use Rattle.std.proofs.lemmas.Bool.{cases_Bool, eqb-true}
use Rattle.std.proofs.lemmas.Slice.{between_is}
use Rattle.base.specs.Counts.{count}
use Rattle.base.proofs.CountLemmas.{count_bound, count_more}
use Rattle.sets.specs.declared.set.BoxSet.{BoxSet}
use Rattle.sets.specs.Masks.{member, set_of}
use Rattle.sets.proofs.MemberLemmas.{none_member}
use Rattle.frames.specs.Frames.{longest_frame}
use Rattle.wire.specs.declared.tape.Tape.{Tape}
use Rattle.wire.specs.declared.span.Span.{Span}
use Rattle.wire.specs.PostedBytes.{no_span, span_at, span_length, tape_frame, HoldsFrame, AreApart, sum_over}
use Rattle.wire.specs.Postable.{is_postable}
use Rattle.wire.proofs.PostLemmas.{postable_length}
use Rattle.wire.proofs.ListLemmas.{replaced}

-- ---- the sum of f over the numbers that pass

total_none : (P : ℕ → Bool) (f : ℕ → ℕ) (n : ℕ) → ((k : ℕ) → P k ≡ false) → sum_over P f n ≡ 0
unfolding sum_over
total_none P f zero e = refl
total_none P f (suc n) e =
    let rest = total_none (λ k. P (suc k)) (λ k. f (suc k)) n (λ k. e (suc k)) in
    let here = e 0 in
    grind arith

total_ext : (P Q : ℕ → Bool) (f g : ℕ → ℕ) (n : ℕ) → ((k : ℕ) → k < n → P k ≡ Q k) → ((k : ℕ) → k < n → P k ≡ true → f k ≡ g k)
    → sum_over P f n ≡ sum_over Q g n
unfolding sum_over
total_ext P Q f g zero p e = refl
total_ext P Q f g (suc n) p e =
    let rest = total_ext (λ k. P (suc k)) (λ k. Q (suc k)) (λ k. f (suc k)) (λ k. g (suc k)) n
    (λ k l. p (suc k) (suc-le-suc l)) (λ k l. e (suc k) (suc-le-suc l)) in
    let here = p 0 (omega arith) in
    let same = e 0 (omega arith) in
    grind (arith, here, same, rest)

-- one number more that passes
total_more : (P : ℕ → Bool) (f g : ℕ → ℕ) (n q : ℕ) → q < n → P q ≡ false → ((k : ℕ) → eqb k q ≡ false → P k ≡ true → g k ≡ f k)
    → sum_over (λ k. P k || eqb k q) g n ≡ sum_over P f n + g q
unfolding sum_over
total_more P f g zero q l e b = absurd (not-suc-le-zero l)
total_more P f g (suc n) zero l e b =
    let rest = total_ext (λ k. P (suc k) || eqb (suc k) zero) (λ k. P (suc k)) (λ k. g (suc k)) (λ k. f (suc k)) n
    (λ k _. grind (arith, nat_tests)) (λ k _ m. b (suc k) (grind (arith, nat_tests)) (grind (arith, nat_tests))) in
    grind (arith, nat_tests)
total_more P f g (suc n) (suc q) l e b =
    let ih = total_more (λ k. P (suc k)) (λ k. f (suc k)) (λ k. g (suc k)) n q (le_of_suc-le-suc l) e
    (λ k y m. b (suc k) (grind (arith, nat_tests)) m) in
    let rest = total_ext (λ k. P (suc k) || eqb (suc k) (suc q)) (λ k. P (suc k) || eqb k q) (λ k. g (suc k)) (λ k. g (suc k)) n
    (λ k _. grind (arith, nat_tests)) (λ _ _ _. refl) in
    let here : P 0 ≡ true → g 0 ≡ f 0 = b 0 (grind (arith, nat_tests)) in
    grind (arith, nat_tests)

-- no more than so much for each
total_bound : (P : ℕ → Bool) (f : ℕ → ℕ) (c n : ℕ) → ((k : ℕ) → P k ≡ true → f k ≤ c) → sum_over P f n ≤ c * count P n
unfolding sum_over count
total_bound P f c zero b = zero-le
total_bound P f c (suc n) b =
    let rest = total_bound (λ k. P (suc k)) (λ k. f (suc k)) c n (λ k. b (suc k)) in
    let here = b 0 in
    grind (arith, here, rest)

-- where none has posted nothing is written
pub none_filled : (s : BoxSet) (f : ℕ → ℕ) (xs : List ℕ) → s ≡ set_of (λ _. false) → xs ≡ [] → length xs ≡ sum_over (member s) f 32
none_filled s f xs e x = ap length x ∙ sym (total_none (member s) f 32 (none_member s e))

-- ---- the bytes

-- where box q of the company has not posted, there is room for a frame
pub room_left : (t : Tape) (q : ℕ) → q < t.roster.n → member t.roster.posted q ≡ false
    → length t.frames.items + longest_frame ≤ longest_frame * 32
room_left t q company vacant =
    let P = member t.roster.posted in
    let all = total_bound P (span_length t.spans) longest_frame 32 (λ k m. omega (arith, t.holds k m)) in
    omega (arith, all, t.filled, count_more P 32 q (omega (arith, t.roster.few)) vacant, count_bound (λ k. P k || eqb k q) 32)

-- what stands in a span as a frame is written behind
kept_range : (xs ys : List ℕ) (i j : ℕ) → j ≤ length xs → slice_range (xs ++ ys) i j ≡ slice_range xs i j
kept_range xs ys i j l = between_is (xs ++ ys) i j ∙ ap (drop i) (take-append-le j xs ys l) ∙ sym (between_is xs i j)

new_range : (xs ys : List ℕ) → slice_range (xs ++ ys) (length xs) (length xs + length ys) ≡ ys
new_range xs ys =
    let n : length xs + length ys - length xs ≡ length ys = omega arith in
    rw (n, drop_at xs ys (length xs) refl) (take-length ys)

-- the frame of box q is written behind those that stand there, in a span of its own, which gives these bytes
pub record Appended (t : Tape) (q : ℕ) (f bytes : List ℕ) (s : Span) : Type 0 where
  pub listed : q < length t.spans
  pub items : bytes ≡ t.frames.items ++ f
  pub start : s.start ≡ length t.frames.items
  pub end : s.end ≡ length t.frames.items + length f

module _ {t : Tape} {q : ℕ} {f bytes : List ℕ} {s : Span} (w : Appended t q f bytes s) where
  abbrev after : List Span
  after = set t.spans q s

  pub there : (span_at after q ≡ s) × ((i : ℕ) → eqb i q ≡ false → span_at after i ≡ span_at t.spans i)
  there = replaced t.spans q s no_span w.listed

  pub new_frame : tape_frame after bytes q ≡ f
  new_frame = ap (λ (x : Span). slice_range bytes x.start x.end) there.0 ∙ rw (w.items, w.start, w.end) (new_range t.frames.items f)

  pub kept_frame : (i : ℕ) → eqb i q ≡ false → member t.roster.posted i ≡ true
      → tape_frame after bytes i ≡ tape_frame t.spans t.frames.items i
  kept_frame i y m =
      ap (λ (x : Span). slice_range bytes x.start x.end) (there.1 i y)
      ∙ rw w.items (kept_range t.frames.items f (span_at t.spans i).start (span_at t.spans i).end (t.holds i m).2)

  -- where the new one begins, and where an old one ends
  begins : (i : ℕ) → eqb i q ≡ true → (span_at after i).start ≡ length t.frames.items
  begins i x = ap (λ k. (span_at after k).start) (eqb-true i q x) ∙ ap (λ (z : Span). z.start) there.0 ∙ w.start

  ends : (i : ℕ) → eqb i q ≡ false → member t.roster.posted i ≡ true → (span_at after i).end ≤ length t.frames.items
  ends i y m = omega (arith, ap (λ (z : Span). z.end) (there.1 i y), (t.holds i m).2)

  pub apart_more : (P : ℕ → Bool) → ((k : ℕ) → P k ≡ (member t.roster.posted k || eqb k q)) → AreApart P (span_at after)
  apart_more P more i j mi mj = go (cases_Bool (eqb i q)) (cases_Bool (eqb j q))
    where
      was : (k : ℕ) → P k ≡ true → eqb k q ≡ false → member t.roster.posted k ≡ true
      was k m y = let a = more k in grind arith

      go : (eqb i q ≡ true) ⊎ (eqb i q ≡ false) → (eqb j q ≡ true) ⊎ (eqb j q ≡ false)
          → (eqb i j || leb (span_at after i).end (span_at after j).start || leb (span_at after j).end (span_at after i).start) ≡ true
      go (inl x) (inl y) = grind (arith, nat_tests, x, y)
      go (inl x) (inr y) = let a = begins i x in let b = ends j y (was j mj y) in grind (arith, nat_tests, a, b)
      go (inr x) (inl y) = let a = begins j y in let b = ends i x (was i mi x) in grind (arith, nat_tests, a, b)
      go (inr x) (inr y) =
          let a = t.apart i j (was i mi x) (was j mj y) in
          let b = there.1 i x in
          let c = there.1 j y in
          rw (there.1 i x, there.1 j y) a

  as_long : length bytes ≡ length t.frames.items + length f
  as_long = rw w.items (length-append t.frames.items f)

  pub filled_more : (P : ℕ → Bool) → member t.roster.posted q ≡ false → q < 32 → ((k : ℕ) → P k ≡ (member t.roster.posted k || eqb k q))
      → length bytes ≡ sum_over P (span_length after) 32
  filled_more P vacant l more =
      let sum = total_more (member t.roster.posted) (span_length t.spans) (span_length after) 32 q l vacant
      (λ k y _. ap (λ (z : Span). z.end - z.start) (there.1 k y)) in
      let all = total_ext P (λ k. member t.roster.posted k || eqb k q) (span_length after) (span_length after) 32
      (λ k _. more k) (λ _ _ _. refl) in
      let own : span_length after q ≡ length f =
      omega (arith, ap (λ (z : Span). z.start) there.0, ap (λ (z : Span). z.end) there.0, w.start, w.end) in
      omega (arith, t.filled, as_long)

  pub holds_more : is_postable f ≡ true → HoldsFrame (length bytes) (span_at after q)
  holds_more e =
      let p = postable_length f e in
      subst (HoldsFrame (length bytes)) (sym there.0)
      (omega (arith, p, w.start, w.end), omega (arith, p, w.start, w.end), omega (arith, w.end, as_long))

  pub held_before : (i : ℕ) → member t.roster.posted i ≡ true → HoldsFrame (length bytes) (span_at t.spans i)
  held_before i m =
      ((t.holds i m).0, (t.holds i m).1, omega (arith, (t.holds i m).2, as_long))
