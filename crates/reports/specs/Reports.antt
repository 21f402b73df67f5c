-- The report of a ringing, a line for each box, and the line of a refusal. To be believed for scripts and reports.
use Rattle.std.specs.Prelude.{ℕ, not, List, [], ◌∷◌, ◌++◌, length, drop, Ok, Err, codes, decimal, Result, nat_lt}
use Rattle.std.specs.List.{flat_map, enumerate_from}
use Rattle.std.specs.Result.{result_map_both}
use Rattle.base.specs.declared.refusal.Refusal.{Refusal}
use Rattle.base.specs.declared.refusal.Refusal.TheVariants as refusal
use Rattle.base.specs.Refusals.{number_of, unless}
use Rattle.machine.specs.declared.place.Standing.{Standing}
use Rattle.machine.specs.declared.place.Standing.TheVariants as standing
use Rattle.machine.specs.Places.{PlaceState, standing_of, standing_word}
use Rattle.machine.specs.State.{State}
use Rattle.machine.specs.RowCheck.{bad_row, is_over}
use Rattle.proposals.specs.Kinds.{Kind}

-- each number in decimal, with a space before it
unfoldable pub spaced_numbers : List ℕ → List ℕ
spaced_numbers numbers = flat_map (λ n. codes " " ++ decimal n) numbers

-- the line of a refusal, with its number
unfoldable pub refusal_line : Refusal → List ℕ
refusal_line e = codes "refused " ++ (decimal (number_of e) ++ codes "\n")

module _ {K : Type 0} (kind : Kind K) where
  -- the numbers behind the word: the round in which a box went down; the round in which it rings, and the image of its proposal
  abbrev pub line_numbers : Standing K → List ℕ
  line_numbers standing.Up = []
  line_numbers (standing.Down r) = r.0 ∷ []
  line_numbers (standing.Rung x) = x.round.0 ∷ kind.image x.proposal

  -- the line of box p: its number, the word for what is told of it, and those numbers
  unfoldable pub box_line : ℕ → Standing K → List ℕ
  box_line p s = decimal p ++ (codes " " ++ (standing_word s ++ (spaced_numbers (line_numbers s) ++ codes "\n")))

  -- the lines of all boxes in order, by what stands at their places
  unfoldable pub report_text : List (PlaceState K) → List ℕ
  report_text row = flat_map (λ e. box_line e.0 (standing_of e.1)) (enumerate_from 0 row)

  -- the report of a ringing where there is room for so many bytes
  unfoldable pub report_or_refusal : ℕ → State K → Result (List ℕ) Refusal
  report_or_refusal room s =
      unless
      ((bad_row s, refusal.Row)
      ∷ (not (is_over s), refusal.Silent)
      ∷ (nat_lt room (length (report_text s.row)), refusal.Narrow)
      ∷ [])
      (report_text s.row)
