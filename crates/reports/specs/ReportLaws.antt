-- How long a report and the line of a refusal can be, and worked examples of both. To be believed for scripts and reports.
use Rattle.std.specs.Prelude.{◌≡◌, ⊤, ℕ, true, None, ◌<◌, ◌≤◌, List, [], ◌∷◌, length, codes}
use Rattle.std.specs.List.{AllByRecursion}
use Rattle.base.specs.declared.refusal.Refusal.{Refusal}
use Rattle.base.specs.declared.refusal.Refusal.TheVariants.{Silent}
use Rattle.base.specs.Limits.{most_company}
use Rattle.machine.specs.Held.{Held}
use Rattle.machine.specs.declared.place.Blow.TheVariants as blow
use Rattle.machine.specs.Places.{PlaceState, at_rest, down, rung}
use Rattle.reports.specs.Reports.{refusal_line, report_text}
use Rattle.proposals.specs.Kinds.{Kind}

-- no report in which every round has at most two digits has more bytes: 32 lines with two digits of the box, six of the word, two of the
-- round and nine of each of four numbers, a space before each but the first, and the end of the line
abbrev pub longest_report : ℕ
longest_report = 1696

-- no line of a refusal has more bytes
abbrev pub longest_refusal : ℕ
longest_refusal = 11

-- the round that is told of it, if one is, is below 100
abbrev pub IsEarly : {K : Type 0} → PlaceState K → Type 0
IsEarly (at_rest b) = ⊤
IsEarly (down r) = r.0 < 100
IsEarly (rung x) = x.round.0 < 100

-- a report of a company's boxes has no more bytes, if every round in it is below 100
abbrev pub ReportLength : {K : Type 0} → Kind K → Type 0
ReportLength {K} kind =
    (row : List (PlaceState K))
    → length row ≤ most_company
    → AllByRecursion IsEarly row
    → length (report_text kind row) ≤ longest_report

-- no line of a refusal has more bytes than the longest
abbrev pub RefusalLength : Type 0
RefusalLength = (e : Refusal) → length (refusal_line e) ≤ longest_refusal

-- a box that rings in round 3 on this pair of numbers
abbrev rings : ℕ × ℕ → PlaceState (ℕ × ℕ)
rings v = rung (record { round = record { 0 = 3 }; proposal = v; blow = blow.Undrawn })

-- pairs of numbers with this image
abbrev pairs_by : (ℕ × ℕ → List ℕ) → Kind (ℕ × ℕ)
pairs_by image = record { size = 2; image = image; named = λ _. None; leads = λ _ _. true }

-- boxes that propose a pair of numbers each, the first of which may be the whole image: two reports, and the line of a refusal
abbrev pub Examples : Type 0
Examples =
    (report_text (pairs_by (λ v. v.0 ∷ [])) (rings (20, 0) ∷ rings (20, 0) ∷ down (record { 0 = 1 }) ∷ rings (20, 0) ∷ [])
    ≡ codes "0 rings 3 20\n1 rings 3 20\n2 down 1\n3 rings 3 20\n")
    × ((b : Held (ℕ × ℕ))
    → report_text (pairs_by (λ v. v.0 ∷ v.1 ∷ [])) (at_rest b ∷ rings (9, 16383) ∷ [])
    ≡ codes "0 up\n1 rings 3 9 16383\n")
    × (refusal_line Silent ≡ codes "refused 17\n")
