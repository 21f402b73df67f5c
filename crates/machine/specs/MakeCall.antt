-- Making a ringing. To be believed for the promise.
use Rattle.std.specs.Prelude.{ℕ, Bool, not, ◌&&◌, ◌||◌, List, [], ◌∷◌, length, Result, ◌==◌}
use Rattle.base.specs.declared.refusal.Refusal.{Refusal}
use Rattle.base.specs.declared.refusal.Refusal.TheVariants as refusal
use Rattle.base.specs.Refusals.{unless}
use Rattle.base.specs.Counts.{any}
use Rattle.base.specs.Numbered.{by_number}
use Rattle.sets.specs.Companies.{is_company}
use Rattle.boxes.specs.Boxes.{first_held}
use Rattle.wire.specs.WireState.{WireState}
use Rattle.machine.specs.Places.{PlaceState, at_rest}
use Rattle.machine.specs.State.{State, is_gone}

-- that the wire is none for a new ringing of n boxes: it joins another number, or a box is not up, or is falling
abbrev pub bad_wire : ℕ → WireState → Bool
bad_wire n m = not (m.n == n) || any (is_gone m) n

-- at the place of each box stands a new one with its proposal
abbrev pub first_row : {K : Type 0} → ℕ → ℕ → List K → List (PlaceState K)
first_row n t proposals = by_number (λ p v. at_rest (first_held (record { 0 = p }) n t v)) proposals

-- making a ringing of n boxes, of which t may fall, over a wire, for a row of so many places
unfoldable pub on_make : {K : Type 0} → ℕ → ℕ → WireState → ℕ → List K → Result (State K) Refusal
on_make n t m places proposals =
    unless
    ((not (is_company n t), refusal.Company)
    ∷ (not (places == n && length proposals == n), refusal.Row)
    ∷ (bad_wire n m, refusal.Wire)
    ∷ [])
    (record { wire = m; t = t; closed = 0; row = first_row n t proposals })
