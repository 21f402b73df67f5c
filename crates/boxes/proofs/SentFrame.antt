-- The frame that a box sends.
use Rattle.std.proofs.Common.{◌<◌, ◌≤◌, length, lt_of_lt_of_le, arith, pow_mono}
use Rattle.frames.specs.Frames.{frame_bytes, longest_frame}
use Rattle.frames.specs.FrameLaws.{HeadFits, FrameHasLength}
use Rattle.boxes.specs.declared.states.Resting.{Resting}
use Rattle.boxes.specs.Boxes.{frame_of}
use Rattle.proposals.specs.Kinds.{Kind}
use Rattle.base.specs.Limits.{number_limit}

module _ {K : Type 0} (b : Resting K) where
  pub mask_fits : b.held.missing.mask < number_limit
  mask_fits = lt_of_lt_of_le b.within (pow_mono b.few)

  pub frame_fits : HeadFits (frame_of b.held)
  frame_fits = (omega (arith, b.ahead, b.due, b.survived, b.few), omega (arith, b.placed, b.few), mask_fits)

  pub frame_short : (kind : Kind K) → kind.size ≤ 4 → FrameHasLength kind
      → (1 ≤ length (frame_bytes kind (frame_of b.held))) × (length (frame_bytes kind (frame_of b.held)) ≤ longest_frame)
  frame_short kind four long =
      let all = long (frame_of b.held) 0 0 4 (omega (arith, b.ahead, b.due, b.survived, b.few)) (omega (arith, b.placed, b.few)) (omega (arith, mask_fits)) in
      (omega (arith, all.0), omega (arith, all.1))
