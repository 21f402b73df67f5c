-- What a wire keeps of each box that is falling, and of each frame that was posted. To be believed for the wire.
use Rattle.std.specs.Prelude.{◌≡◌, ℕ, ◌^◌, ◌<◌, Bool, true, false, ◌&&◌, List, length, slice_index_or, nat_le}
use Rattle.sets.specs.declared.set.BoxSet.{BoxSet}
use Rattle.sets.specs.Masks.{member}
use Rattle.frames.specs.Frames.{longest_frame}

-- the empty set
abbrev pub no_boxes : BoxSet
no_boxes = record { mask = 0 }

-- the set at a place of a list; past its end, the empty one
abbrev pub set_at : List BoxSet → ℕ → BoxSet
set_at sets q = slice_index_or sets q no_boxes

-- in a company of n boxes of which these are up, box q may be falling with s for its lost set
abbrev pub IsFalling : ℕ → BoxSet → ℕ → BoxSet → Type 0
IsFalling n up q s = (member up q ≡ true) × (s.mask < 2 ^ n) × (member s q ≡ false)

-- these bytes may be posted
abbrev pub is_postable : List ℕ → Bool
is_postable f = nat_le 1 (length f) && nat_le (length f) longest_frame
