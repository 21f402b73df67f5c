-- What a roster tells of a wire, and what its calls make of that. To be believed of the two wires.
use Rattle.std.specs.Prelude.{◌≡◌, ℕ, Bool, true, false, if◌then◌else◌, List, is_some, Some, None, Option, Result, ◌==◌}
use Rattle.base.specs.declared.refusal.Refusal.{Refusal}
use Rattle.sets.specs.Masks.{member}
use Rattle.wire.specs.declared.roster.Roster.{Roster}
use Rattle.wire.specs.Postable.{set_at}
use Rattle.wire.specs.WireState.{WireState, with_posted, heard_frame, unless_stranger}

-- x if the test passes
abbrev pub some_if : {X : Type 0} → Bool → X → Option X
some_if b x = if b then Some x else None

-- the meaning of a wire with this roster, on which these are the bytes of each box that has posted
abbrev pub roster_state : Roster → (ℕ → List ℕ) → WireState
roster_state r frames = record {
  n = r.n;
  up = r.up;
  lost = λ q. some_if (member r.falling q) (set_at r.lost q);
  posted = λ q. some_if (member r.posted q) (frames q);
}

-- ---- what is said of a roster whatever the bytes are

-- P of each meaning of a wire with this roster
abbrev pub ForAnyBytes : Roster → (WireState → Type 0) → Type 0
ForAnyBytes r P = (frames : ℕ → List ℕ) → P (roster_state r frames)

-- P of each on which box q has posted f, if it has posted
abbrev pub ForBytesOf : Roster → ℕ → List ℕ → (WireState → Type 0) → Type 0
ForBytesOf r q f P = (frames : ℕ → List ℕ) → (member r.posted q ≡ true → f ≡ frames q) → P (roster_state r frames)

-- by going from the old roster to the new one a wire becomes what f makes of it
abbrev pub Becomes : (WireState → WireState) → Roster → Roster → Type 0
Becomes f old new = (frames : ℕ → List ℕ) → roster_state new frames ≡ f (roster_state old frames)

-- and so it has the bytes of box q posted besides, if those of the others stay
abbrev pub EntersPosted : ℕ → Roster → Roster → Type 0
EntersPosted q old new =
    (before after : ℕ → List ℕ) → ((i : ℕ) → (i == q) ≡ false → member old.posted i ≡ true → after i ≡ before i)
    → roster_state new after ≡ with_posted q (after q) (roster_state old before)

-- whether there is something that box p hears of box q
abbrev pub reach_answer : (p q : ℕ) → WireState → Result Bool Refusal
reach_answer p q m = unless_stranger p q m (is_some (heard_frame m p q))
