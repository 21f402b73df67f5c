-- What a wire means, and what each call makes of it. To be believed for the wire.
use Rattle.std.specs.Prelude.{◌≡◌, ℕ, ◌^◌, ◌<◌, Bool, true, false, if◌then◌else◌, not, ◌&&◌, ◌||◌, List, [], ◌∷◌, length, is_some, Some, None, Option, unwrap_or, option_map, Ok, Err, Result, ◌==◌, nat_le, nat_lt}
use Rattle.std.specs.Result.{result_map_both}
use Rattle.base.specs.declared.refusal.Refusal.{Refusal}
use Rattle.base.specs.declared.refusal.Refusal.TheVariants as refusal
use Rattle.base.specs.Refusals.{unless}
use Rattle.base.specs.Buffers.{front_after}
use Rattle.sets.specs.declared.set.BoxSet.{BoxSet}
use Rattle.sets.specs.Companies.{is_company_size, is_bad_lost}
use Rattle.sets.specs.Masks.{member, set_of}
use Rattle.wire.specs.Postable.{IsFalling, is_postable}

-- what a wire is at some moment: how many boxes it joins, which of them are up, the lost set of each box that is falling (the boxes that
-- do not hear what it posts), and the bytes that each box has posted. A box that is not falling has no lost set, one that has not posted
-- no bytes
pub record WireState : Type 0 where
  pub n : ℕ
  pub up : BoxSet
  pub lost : ℕ → Option BoxSet
  pub posted : ℕ → Option (List ℕ)

-- the boxes that are falling
abbrev pub falling_set : WireState → BoxSet
falling_set m = set_of (λ i. is_some (m.lost i))

-- those that have posted
abbrev pub posted_set : WireState → BoxSet
posted_set m = set_of (λ i. is_some (m.posted i))

-- what code above may take for granted of every wire
pub record IsWellFormed (m : WireState) : Type 0 where
  pub size : is_company_size m.n ≡ true
  pub up_within : m.up.mask < 2 ^ m.n
  pub falling : (q : ℕ) (s : BoxSet) → m.lost q ≡ Some s → IsFalling m.n m.up q s
  pub posted : (q : ℕ) (f : List ℕ) → m.posted q ≡ Some f → (q < m.n) × (is_postable f ≡ true)

-- ---- making one

-- a new wire: all up, none falling, nothing posted
abbrev pub new_wire : ℕ → WireState
new_wire n = record { n = n; up = set_of (λ i. nat_lt i n); lost = λ _. None; posted = λ _. None }

-- making one for n boxes
unfoldable pub on_make : ℕ → Result WireState Refusal
on_make n = unless ((not (is_company_size n), refusal.Company) ∷ []) (new_wire n)

-- ---- rounds

-- as a round opens, none has posted
abbrev pub on_open : WireState → WireState
on_open m = record m { posted = λ _. None }

-- as it closes, those that were falling are up no more, and what was posted stays
abbrev pub on_close : WireState → WireState
on_close m = record m { up = set_of (λ i. member m.up i && not (is_some (m.lost i))); lost = λ _. None }

-- ---- falling

-- box q is falling besides, with s for its lost set
abbrev pub with_falling : ℕ → BoxSet → WireState → WireState
with_falling q s m = record m { lost = λ i. (if i == q then Some s else m.lost i) }

-- letting box q fall
unfoldable pub on_fall : ℕ → BoxSet → WireState → Result WireState Refusal
on_fall q s m =
    unless
    ((nat_le m.n q, refusal.Stranger)
    ∷ (is_bad_lost m.n q s, refusal.Set)
    ∷ (not (member m.up q) || is_some (m.lost q), refusal.Down)
    ∷ [])
    (with_falling q s m)

-- ---- posting

-- box q has posted the bytes f besides
abbrev pub with_posted : ℕ → List ℕ → WireState → WireState
with_posted q f m = record m { posted = λ i. (if i == q then Some f else m.posted i) }

-- letting box q post, which may be falling
unfoldable pub on_post : ℕ → List ℕ → WireState → Result WireState Refusal
on_post q f m =
    unless
    ((nat_le m.n q, refusal.Stranger)
    ∷ (not (member m.up q), refusal.Down)
    ∷ (is_some (m.posted q), refusal.Posted)
    ∷ (not (is_postable f), refusal.Narrow)
    ∷ [])
    (with_posted q f m)

-- ---- fetching

-- x, unless box p or q is none of the company's
abbrev pub unless_stranger : {X : Type 0} → (p q : ℕ) → WireState → X → Result X Refusal
unless_stranger p q m x = unless ((nat_le m.n p || nat_le m.n q, refusal.Stranger) ∷ []) x

-- whether the box is in the set, if there is one
abbrev pub is_in : ℕ → Option BoxSet → Bool
is_in p None = false
is_in p (Some s) = member s p

-- whether what box q posts is lost to box p: q is falling with p in its lost set
abbrev pub is_lost : WireState → (p q : ℕ) → Bool
is_lost m p q = is_in p (m.lost q)

-- what box p hears of box q: nothing where q posted none or it is lost to p
abbrev pub heard_frame : WireState → (p q : ℕ) → Option (List ℕ)
heard_frame m p q = if is_lost m p q then None else m.posted q

-- what is given to p of q where there is room for so many bytes
unfoldable pub on_fetch : (p q room : ℕ) → WireState → Result (Option (List ℕ)) Refusal
on_fetch p q room m =
    unless
    ((nat_le m.n p || nat_le m.n q, refusal.Stranger)
    ∷ (nat_lt room (length (unwrap_or (heard_frame m p q) [])), refusal.Narrow)
    ∷ [])
    (heard_frame m p q)

-- the answer: the length, or nothing
abbrev pub fetch_answer : Result (Option (List ℕ)) Refusal → Result (Option ℕ) Refusal
fetch_answer r = result_map_both (option_map length) (λ e. e) r

-- what the bytes given hold then: the frame at their front, if one was given
abbrev pub fetched_bytes : Result (Option (List ℕ)) Refusal → List ℕ → List ℕ
fetched_bytes r out = front_after (result_map_both (λ frame. unwrap_or frame []) (λ e. e) r) out
