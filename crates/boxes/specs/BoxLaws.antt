-- What holds of every box, for every kind of proposal. To be believed for boxes.
use Rattle.std.specs.Prelude.{◌≡◌, ℕ, ◌+◌, ◌^◌, ◌<◌, ◌≤◌, ◌==◌, ◌||◌, ⊤, Ok, Bool, true, false, List, [], ◌∷◌, ◌++◌, length, map, is_some, Some, All, Contains}
use Rattle.std.specs.Result.{result_map_both}
use Rattle.base.specs.declared.refusal.Refusal.TheVariants as refusal
use Rattle.base.specs.Refusals.{unless}
use Rattle.sets.specs.Companies.{is_company}
use Rattle.base.specs.Counts.{count}
use Rattle.base.specs.Limits.{most_company}
use Rattle.sets.specs.Masks.{member, set_of}
use Rattle.frames.specs.declared.frame.Frame.{Frame}
use Rattle.base.specs.Results.{map_fault}
use Rattle.frames.specs.Frames.{frame_bytes, longest_frame}
use Rattle.frames.specs.FrameLaws.{HeadFits}
use Rattle.boxes.specs.declared.states.Notes.{Notes}
use Rattle.boxes.specs.declared.states.Resting.{Resting}
use Rattle.boxes.specs.declared.states.Listening.{Listening}
use Rattle.boxes.specs.Boxes.{next_round, frame_of}
use Rattle.boxes.specs.BoxRounds.{Outcome, rests, rings, box_refusal, open_notes, notes_with, on_hear, on_close}
use Rattle.boxes.specs.ByFrames.{boxes_told_missing, first_estimate, close_by_frames, admits, heard_frames, frames_in, notes_after}
use Rattle.proposals.specs.Kinds.{Kind}

-- what every box keeps: its company is within the limits, its number is of the company, its missing set too, without itself and of at
-- most t boxes, and its best horizon lies from its next round to t + 1
abbrev pub BoxKeeps : Type 0 → Type 0
BoxKeeps K = (b : Resting K)
    → (is_company b.held.n b.held.t ≡ true)
    × (b.held.number.0 < b.held.n)
    × (b.held.missing.mask < 2 ^ b.held.n)
    × (member b.held.missing b.held.number.0 ≡ false)
    × (count (member b.held.missing) most_company ≤ b.held.t)
    × ((next_round b.held).0 ≤ b.held.horizon.0)
    × (b.held.horizon.0 ≤ b.held.t + 1)

-- and a listening box has heard itself
abbrev pub ListeningKeeps : Type 0 → Type 0
ListeningKeeps K = (l : Listening K) → member l.notes.heard l.resting.held.number.0 ≡ true

-- a box at rest is determined by the seven values that it holds, and a listening one by these and its notes
abbrev pub BoxIsDetermined : Type 0 → Type 0
BoxIsDetermined K = (a b : Resting K) → a.held ≡ b.held → a ≡ b

abbrev pub ListeningIsDetermined : Type 0 → Type 0
ListeningIsDetermined K = (a b : Listening K) → a.resting.held ≡ b.resting.held → a.notes ≡ b.notes → a ≡ b

-- whether the outcome is that it rings
abbrev pub is_ringing : {K : Type 0} → Outcome K → Bool
is_ringing (rests b) = false
is_ringing (rings round proposal) = true

-- a box that closes a round rings in it just if that round was its best horizon already, or it knows as many boxes missing as may fall
abbrev pub RingsWhen : Type 0 → Type 0
RingsWhen K = (b : Resting K) (m : Notes K) (o : Outcome K) → on_close b.held m ≡ Ok o
    → is_ringing o ≡ (b.held.horizon.0 == (next_round b.held).0 || count (member m.known) most_company == b.held.t)

-- what a box sends has 1 to 24 bytes
abbrev pub FrameIsShort : {K : Type 0} → Kind K → Type 0
FrameIsShort {K} kind = (b : Resting K)
    → (1 ≤ length (frame_bytes kind (frame_of b.held)))
    × (length (frame_bytes kind (frame_of b.held)) ≤ longest_frame)

-- frames that were sent are the frames among what is told
abbrev pub SentAreRead : {K : Type 0} → Kind K → Type 0
SentAreRead {K} kind = (sent : List (Frame K)) → All HeadFits sent → frames_in kind (map (frame_bytes kind) sent) ≡ sent

module _ {K : Type 0} (kind : Kind K) where
  -- whatever was told to a box in a round, its notes are of the frames heard: from whom, whom they tell missing, which estimate goes first
  abbrev pub NotesShowFrames : Type 0
  NotesShowFrames = (b : Resting K) (told : List (List ℕ)) → (
      let notes = notes_after kind b.held (open_notes b.held) told in
      let heard = heard_frames b.held (frames_in kind told) in
      (notes.heard ≡ set_of (λ i. is_some (heard i)))
      × (notes.known ≡ boxes_told_missing b.held heard)
      × (first_estimate b.held heard kind ≡ Some notes.foremost))

  -- and it closes the round as the rule says of them
  abbrev pub ClosesByFrames : Type 0
  ClosesByFrames = (b : Resting K) (told : List (List ℕ))
      → on_close b.held (notes_after kind b.held (open_notes b.held) told)
      ≡ map_fault (box_refusal b.held) (close_by_frames kind b.held (heard_frames b.held (frames_in kind told)))

  -- to be told some bytes and then others is to be told them all
  abbrev pub TellingAddsUp : Type 0
  TellingAddsUp = (b : Resting K) (m : Notes K) (told more : List (List ℕ))
      → notes_after kind b.held m (told ++ more) ≡ notes_after kind b.held (notes_after kind b.held m told) more

  -- where all frames of a sender that the box may hear are the same, the order and number of tellings does not count
  abbrev pub IsOrderFree : Type 0
  IsOrderFree = (b : Resting K) (told again : List (List ℕ))
      → ((f : Frame K)
      → (Contains (frames_in kind told) f → Contains (frames_in kind again) f)
      × (Contains (frames_in kind again) f → Contains (frames_in kind told) f))
      → ((f g : Frame K)
      → Contains (frames_in kind told) f
      → Contains (frames_in kind told) g
      → admits b.held f ≡ true
      → admits b.held g ≡ true
      → f.sender.0 ≡ g.sender.0
      → f ≡ g)
      → notes_after kind b.held (open_notes b.held) told ≡ notes_after kind b.held (open_notes b.held) again

  -- what a box composes, another of its company in the same round notes as that frame, unless it has heard the sender, misses it
  -- or is told missing itself
  abbrev pub ComposedIsHeard : Type 0
  ComposedIsHeard = (a b : Resting K) (m : Notes K) → a.held.n ≡ b.held.n → a.held.closed ≡ b.held.closed
      → on_hear kind b.held m (frame_bytes kind (frame_of a.held))
      ≡ result_map_both {T = ⊤} (λ _. notes_with kind m (frame_of a.held)) (box_refusal b.held)
      (unless
      ((member m.heard a.held.number.0, refusal.Heard)
      ∷ (member b.held.missing a.held.number.0, refusal.Down)
      ∷ (member a.held.missing b.held.number.0, refusal.Set)
      ∷ [])
      tt)
