-- What posting makes of a wire.
use Rattle.std.proofs.Common.{◌≡◌, ℕ, ◌<◌, ◌≤◌, true, false, eqb, List, [], length, map, set, Ok, Err, Result, sym, ap, arith}
use Rattle.std.proofs.lemmas.Bool.Decides.{nat_tests}
use Rattle.std.proofs.lemmas.List.{map-set, length-map}
use Rattle.base.specs.declared.refusal.Refusal.{Refusal}
use Rattle.base.specs.Results.{answer, or_kept}
use Rattle.arrayvec.specs.ArrayVec.{ArrayVec}
use Rattle.frames.specs.Frames.{longest_frame}
use Rattle.wire.specs.Postable.{is_postable}
use Rattle.wire.specs.WireState.{WireState, on_post, with_posted}
use Rattle.wire.specs.PostedBytes.{line_frame}
use Rattle.wire.proofs.ListLemmas.{replaced}

-- how long a frame is that may be posted
pub postable_length : (f : List ℕ) → is_postable f ≡ true → (1 ≤ length f) × (length f ≤ longest_frame)
postable_length f e = (grind (arith, nat_tests), grind (arith, nat_tests))

-- what an accepted call leaves is what is defined
pub accepted : (r : Result WireState Refusal) (m n : WireState) → Ok tt ≡ answer r → n ≡ or_kept m r → r ≡ Ok n
accepted (Ok x) m n a b = ap (λ k. Ok k) (sym b)
accepted (Err e) m n a b = absurd (grind arith)

-- what an accepted posting leaves
pub posting_ok : (q : ℕ) (f : List ℕ) (m : WireState) → Ok tt ≡ answer (on_post q f m) → with_posted q f m ≡ or_kept m (on_post q f m)
unfolding on_post
posting_ok q f m e = grind arith

-- a line in place of another
pub line_replaced : (lines : List (ArrayVec ℕ)) (q : ℕ) (l : ArrayVec ℕ) → q < length lines
    → (line_frame (set lines q l) q ≡ l.items) × ((i : ℕ) → eqb i q ≡ false → line_frame (set lines q l) i ≡ line_frame lines i)
line_replaced lines q l h =
    let at = replaced (map (λ k. k.items) lines) q l.items [] (rw length-map h) in
    (rw (map-set (λ k. k.items) lines q l) at.0, λ i e. rw (map-set (λ k. k.items) lines q l) (at.1 i e))
