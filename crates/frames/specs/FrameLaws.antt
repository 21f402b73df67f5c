-- What the bytes of a frame are for, and how other bytes are refused. To be believed for frames.
use Rattle.std.specs.Prelude.{◌≡◌, ℕ, suc, ◌+◌, ◌*◌, ◌^◌, ◌<◌, ◌≤◌, List, [], ◌∷◌, ◌++◌, length, None, Ok, Err}
use Rattle.std.specs.List.{AllByRecursion}
use Rattle.numbers.specs.declared.codec.NumberFault.{NumberFault}
use Rattle.numbers.specs.Numbers.{numbers_bytes, read_number}
use Rattle.frames.specs.declared.fault.FrameFault.TheVariants.{Number, Image, Surplus}
use Rattle.frames.specs.declared.frame.Frame.{Frame}
use Rattle.frames.specs.FrameFaults.{field_at}
use Rattle.frames.specs.Frames.{frame_bytes, read_frame}
use Rattle.proposals.specs.Kinds.{Kind}
use Rattle.base.specs.Limits.{number_limit}

-- the numbers of the head are numbers that there are
abbrev pub HeadFits : {K : Type 0} → Frame K → Type 0
HeadFits f = (f.round.0 < number_limit) × (f.sender.0 < number_limit) × (f.missing.mask < number_limit)

module _ {K : Type 0} (kind : Kind K) where
  -- a frame that is written reads back as itself
  abbrev pub FrameReadsBack : Type 0
  FrameReadsBack = (f : Frame K) → HeadFits f → read_frame kind (frame_bytes kind f) ≡ Ok f

  -- no other bytes read as that frame
  abbrev pub FrameReadsOnly : Type 0
  FrameReadsOnly = (bytes : List ℕ) (f : Frame K)
      → AllByRecursion (λ b. b < 256) bytes
      → read_frame kind bytes ≡ Ok f
      → bytes ≡ frame_bytes kind f

  -- where the numbers so far are too few and the next one is refused, the frame is, for that fault in the field of that number
  abbrev pub FrameRefusesNumber : Type 0
  FrameRefusesNumber = (ns behind : List ℕ) (e : NumberFault)
      → AllByRecursion (λ n. n < number_limit) ns
      → length ns < 3 + kind.size
      → read_number (numbers_bytes ns ++ behind) (length (numbers_bytes ns)) ≡ Err e
      → read_frame kind (numbers_bytes ns ++ behind) ≡ Err (Number (record { field = field_at (length ns); fault = e }))

  -- numbers that are the image of no proposal are refused at the first of them, whatever follows
  abbrev pub FrameRefusesImage : Type 0
  FrameRefusesImage = (r s m : ℕ) (ns behind : List ℕ)
      → AllByRecursion (λ n. n < number_limit) (r ∷ s ∷ m ∷ ns)
      → length ns ≡ kind.size
      → kind.named ns ≡ None
      → read_frame kind (numbers_bytes (r ∷ s ∷ m ∷ ns) ++ behind) ≡ Err (Image (length (numbers_bytes (r ∷ s ∷ m ∷ []))))

  -- where bytes follow a frame, the first of them is refused
  abbrev pub FrameRefusesSurplus : Type 0
  FrameRefusesSurplus = (f : Frame K) (b : ℕ) (behind : List ℕ)
      → HeadFits f
      → read_frame kind (frame_bytes kind f ++ (b ∷ behind)) ≡ Err (Surplus (length (frame_bytes kind f)))

  -- every number takes a byte at least. Where round, sender and set need so many groups of seven bits at most, at least one each, the frame
  -- has as many bytes at most, and four for each number of the image
  abbrev pub FrameHasLength : Type 0
  FrameHasLength = (f : Frame K) (a b c : ℕ)
      → f.round.0 < 128 ^ suc a
      → f.sender.0 < 128 ^ suc b
      → f.missing.mask < 128 ^ suc c
      → (3 + kind.size ≤ length (frame_bytes kind f))
      × (length (frame_bytes kind f) ≤ suc a + suc b + suc c + 4 * kind.size)
