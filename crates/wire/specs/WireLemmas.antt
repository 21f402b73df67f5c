-- What every board and every tape means is well formed. For proofs only.
use Rattle.std.specs.Prelude.{◌≡◌, ℕ, ◌-◌, ◌<◌, true, false, List, length, Some, ◌⊎◌}
use Rattle.std.proofs.Common.{subst, inl, inr, arith}
use Rattle.std.proofs.lemmas.List.Edits.{length-between}
use Rattle.std.proofs.lemmas.Bool.{cases_Bool}
use Rattle.std.proofs.lemmas.Bool.Decides.{nat_tests}
use Rattle.sets.specs.declared.set.BoxSet.{BoxSet}
use Rattle.sets.specs.Masks.{member}
use Rattle.sets.proofs.BitLemmas.{bit_high}
use Rattle.wire.specs.declared.roster.Roster.{Roster}
use Rattle.wire.specs.declared.board.Board.{Board}
use Rattle.wire.specs.declared.tape.Tape.{Tape}
use Rattle.wire.specs.Postable.{set_at, IsFalling, is_postable}
use Rattle.wire.specs.PostedBytes.{line_frame, span_at, tape_frame}
use Rattle.wire.specs.WireState.{IsWellFormed}
use Rattle.wire.specs.Rosters.{some_if, roster_state}
use Rattle.wire.specs.Wires.{board_meaning, tape_meaning}

-- a wire with this roster is well formed, if what stands posted is postable
shown_formed : (r : Roster) (frames : ℕ → List ℕ) → ((q : ℕ) → member r.posted q ≡ true → is_postable (frames q) ≡ true)
    → IsWellFormed (roster_state r frames)
shown_formed r frames postable = record {
  size = grind (arith, nat_tests, r.several, r.few);
  up_within = r.up_within;
  falling = λ q s e. lost q s (cases_Bool (member r.falling q)) e;
  posted = λ q f e. stands q f (cases_Bool (member r.posted q)) e;
}
  where
    lost : (q : ℕ) (s : BoxSet) → (member r.falling q ≡ true) ⊎ (member r.falling q ≡ false)
        → some_if (member r.falling q) (set_at r.lost q) ≡ Some s → IsFalling r.n r.up q s
    lost q s (inl t) e = subst (IsFalling r.n r.up q) (grind (arith, t, e)) (r.losing q t)
    lost q s (inr t) e = absurd (grind (arith, t, e))

    stands : (q : ℕ) (f : List ℕ) → (member r.posted q ≡ true) ⊎ (member r.posted q ≡ false)
        → some_if (member r.posted q) (frames q) ≡ Some f → (q < r.n) × (is_postable f ≡ true)
    stands q f (inl t) e =
        let is : frames q ≡ f = grind (arith, t, e) in
        (grind (arith, nat_tests, bit_high r.n r.posted.mask q r.posted_within), subst (λ g. is_postable g ≡ true) is (postable q t))
    stands q f (inr t) e = absurd (grind (arith, t, e))

-- of a board
pub board_formed : (b : Board) → IsWellFormed (board_meaning b)
board_formed b = shown_formed b.roster (line_frame b.lines) b.postable

-- of a tape
pub tape_formed : (t : Tape) → IsWellFormed (tape_meaning t)
tape_formed t =
    shown_formed t.roster (tape_frame t.spans t.frames.items) (λ q p.
    let h = t.holds q p in
    let s = span_at t.spans q in
    let l : length (tape_frame t.spans t.frames.items q) ≡ s.end - s.start = length-between t.frames.items s.start s.end h.2 in
    grind (arith, nat_tests))
