-- Which row is refused, and whether a box of it rings. To be believed for the promise.
use Rattle.std.specs.Prelude.{ℕ, ⊤, Bool, not, ◌&&◌, ◌||◌, [], ◌∷◌, length, Result, ◌==◌, nat_lt}
use Rattle.std.specs.List.{list_any}
use Rattle.base.specs.declared.refusal.Refusal.{Refusal}
use Rattle.base.specs.declared.refusal.Refusal.TheVariants as refusal
use Rattle.base.specs.Limits.{most_company}
use Rattle.base.specs.Refusals.{unless}
use Rattle.base.specs.Counts.{any}
use Rattle.base.specs.Numbered.{any_numbered}
use Rattle.sets.specs.Masks.{member}
use Rattle.boxes.specs.declared.states.Held.{Held}
use Rattle.machine.specs.Places.{PlaceState, at_rest, down, rung}
use Rattle.machine.specs.State.{State, gone_count, has_rung}

module _ {K : Type 0} where
  -- that the box at rest is none that this ringing has at place p: it is of another number, n, t or closed rounds, or misses a box that is
  -- up. It cannot lack what every box keeps: that stands in its type
  abbrev pub is_other : State K → ℕ → Held K → Bool
  is_other s p b =
      not (b.number.0 == p && b.n == s.wire.n && b.t == s.t && b.closed == s.closed)
      || any (λ q. member b.missing q && member s.wire.up q) most_company

  -- that this may not stand at place p: a box that is down stands there just if the wire has it not up, and one at rest or ringing only if
  -- it is up; one that rings does so in the last closed round, and in none before there is one
  abbrev pub is_misplaced : State K → ℕ → PlaceState K → Bool
  is_misplaced s p (at_rest b) = not (member s.wire.up p) || is_other s p b
  is_misplaced s p (down r) = member s.wire.up p
  is_misplaced s p (rung x) = not (member s.wire.up p) || not (x.round.0 == s.closed) || s.closed == 0

  -- that the row is none of this ringing: it has not n places, something is misplaced, or over t boxes are down or falling
  unfoldable pub bad_row : State K → Bool
  bad_row s = not (length s.row == s.wire.n) || any_numbered (is_misplaced s) s.row || nat_lt s.t (gone_count s.wire)

  -- a box of the row rings
  abbrev pub is_over : State K → Bool
  is_over s = list_any has_rung s.row

  -- that the row is this ringing's, or why not
  abbrev pub row_verdict : State K → Result ⊤ Refusal
  row_verdict s = unless ((bad_row s, refusal.Row) ∷ []) tt

  -- and that none of its boxes rings besides
  abbrev pub going_on_verdict : State K → Result ⊤ Refusal
  going_on_verdict s = unless ((bad_row s, refusal.Row) ∷ (is_over s, refusal.Over) ∷ []) tt
