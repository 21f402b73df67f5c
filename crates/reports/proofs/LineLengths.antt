-- The lines of a report, one after another, and how long they are.
use Rattle.std.proofs.Common.{◌≡◌, ℕ, zero, suc, ◌+◌, ◌*◌, ◌<◌, ◌≤◌, List, [], ◌∷◌, ◌++◌, length, take, get_or, Some, codes, decimal, refl, sym, ap, ◌∙◌, append_assoc, length-append, arith, rules}
use Rattle.std.specs.Fmt.{digits}
use Rattle.std.specs.List.{flat_map, enumerate_from, slice_get, AllByRecursion}
use Rattle.std.proofs.lemmas.Fmt.{length-decimal-le}
use Rattle.std.proofs.lemmas.Grind.{common_steps}
use Rattle.std.proofs.lemmas.List.{append-nil}
use Rattle.base.specs.declared.refusal.Refusal.{Refusal}
use Rattle.base.specs.Refusals.{number_of}
use Rattle.machine.specs.declared.place.Standing.{Standing}
use Rattle.machine.specs.declared.place.Standing.TheVariants as standing
use Rattle.machine.specs.declared.place.Blow.{Blow}
use Rattle.machine.specs.declared.place.Blow.TheVariants as blow
use Rattle.machine.specs.Places.{PlaceState, at_rest, down, rung, standing_of, standing_word, blow_word}
use Rattle.reports.specs.Reports.{spaced_numbers, line_numbers, box_line, report_text, refusal_line}
use Rattle.reports.specs.ReportLaws.{IsEarly, ReportLength, RefusalLength, Examples}
use Rattle.proposals.specs.Kinds.{Kind, IsKind}
use Rattle.base.specs.Limits.{image_limit}

-- ---- numbers with a space before each

pub spaced-nil : spaced_numbers [] ≡ []
unfolding spaced_numbers
spaced-nil = refl

pub spaced-cons : (n : ℕ) (ns : List ℕ) → spaced_numbers (n ∷ ns) ≡ (codes " " ++ decimal n) ++ spaced_numbers ns
unfolding spaced_numbers
spaced-cons n ns = refl

pub spaced-more : (ns : List ℕ) (i : ℕ) → i < length ns
    → spaced_numbers (take (i + 1) ns) ≡ spaced_numbers (take i ns) ++ (codes " " ++ decimal (get_or ns i 0))
unfolding spaced_numbers
spaced-more ns i inside = grind (arith, common_steps)

-- ---- line after line

module _ {K : Type 0} (kind : Kind K) where
  abbrev lines_from : ℕ → List (PlaceState K) → List ℕ
  lines_from k row = flat_map (λ e. box_line kind e.0 (standing_of e.1)) (enumerate_from k row)

  more_from : (k : ℕ) (row : List (PlaceState K)) (p : ℕ) (x : PlaceState K) → slice_get row p ≡ Some x
      → lines_from k (take (suc p) row) ≡ lines_from k (take p row) ++ box_line kind (k + p) (standing_of x)
  more_from k [] p x at = absurd (grind arith)
  more_from k (y ∷ ys) zero x at =
      let same : k ≡ k + 0 = omega arith in
      let here : y ≡ x = cc in
      append-nil (box_line kind k (standing_of y)) ∙ (λ j. box_line kind (same j) (standing_of (here j)))
  more_from k (y ∷ ys) (suc p) x at =
      let same : k + 1 + p ≡ k + suc p = omega arith in
      ap (λ l. box_line kind k (standing_of y) ++ l) (more_from (k + 1) ys p x at ∙ ap (λ i. lines_from (k + 1) (take p ys) ++ box_line kind i (standing_of x)) same)
      ∙ sym (append_assoc (box_line kind k (standing_of y)) (lines_from (k + 1) (take p ys)) (box_line kind (k + suc p) (standing_of x)))

  pub report-nil : report_text kind [] ≡ []
  unfolding report_text
  report-nil = refl

  pub report-more : (row : List (PlaceState K)) (p : ℕ) (x : PlaceState K) → slice_get row p ≡ Some x
      → report_text kind (take (p + 1) row) ≡ report_text kind (take p row) ++ box_line kind p (standing_of x)
  unfolding report_text
  report-more row p x at =
      let next : p + 1 ≡ suc p = omega arith in
      let same : 0 + p ≡ p = omega arith in
      ap (λ i. lines_from 0 (take i row)) next ∙ more_from 0 row p x at ∙ ap (λ i. lines_from 0 (take p row) ++ box_line kind i (standing_of x)) same

-- ---- how long they are

word_short : {K : Type 0} (s : Standing K) → length (standing_word s) ≤ 6
word_short standing.Up = omega arith
word_short (standing.Down r) = omega arith
word_short (standing.Rung x) = blow_short x.blow
  where
    blow_short : (b : Blow) → length (blow_word b) ≤ 6
    blow_short blow.Undrawn = omega arith
    blow_short blow.Out = omega arith
    blow_short blow.Struck = omega arith
    blow_short blow.Missed = omega arith

-- the numbers of an image
image_short : (ns : List ℕ) → AllByRecursion (λ n. n < image_limit) ns → length (spaced_numbers ns) ≤ 10 * length ns
unfolding spaced_numbers
image_short [] all = omega arith
image_short (n ∷ ns) (small, all) =
    let first = length-decimal-le 9 n (omega arith) (omega arith) (omega arith) in
    omega (arith, image_short ns all, length-append (decimal n) (spaced_numbers ns))

module _ {K : Type 0} (kind : Kind K) (laws : IsKind kind) where
  told_short : (x : PlaceState K) → IsEarly x → length (spaced_numbers (line_numbers kind (standing_of x))) ≤ 43
  unfolding spaced_numbers
  told_short (at_rest b) early = omega arith
  told_short (down r) early = let round = length-decimal-le 2 r.0 (omega arith) early (omega arith) in omega (arith, length-append (decimal r.0) [])
  told_short (rung x) early =
      let round = length-decimal-le 2 x.round.0 (omega arith) early (omega arith) in
      omega (arith, length-append (decimal x.round.0) (spaced_numbers (kind.image x.proposal)), image_short (kind.image x.proposal) (laws.small x.proposal), laws.long x.proposal, laws.sized.1)

  line_short : (p : ℕ) (x : PlaceState K) → p < 100 → IsEarly x → length (box_line kind p (standing_of x)) ≤ 53
  unfolding box_line
  line_short p x low early =
      let number = length-decimal-le 2 p (omega arith) low (omega arith) in
      let word = word_short (standing_of x) in
      let told = told_short x early in
      grind (arith, common_steps)

  short_from : (k : ℕ) (row : List (PlaceState K)) → k + length row ≤ 100 → AllByRecursion IsEarly row
      → length (lines_from kind k row) ≤ 53 * length row
  short_from k [] within all = omega arith
  short_from k (x ∷ xs) within (early, all) =
      let first = line_short k x (omega arith) early in
      let rest = short_from (k + 1) xs (omega arith) all in
      omega (arith, length-append (box_line kind k (standing_of x)) (lines_from kind (k + 1) xs))

  pub report_length : ReportLength kind
  unfolding report_text
  report_length row within all = let s = short_from 0 row (omega arith) all in omega arith

number_small : (e : Refusal) → number_of e < 100
number_small e = search rules

pub refusal_length : RefusalLength
unfolding refusal_line
refusal_length e =
    let number = length-decimal-le 2 (number_of e) (omega arith) (number_small e) (omega (arith, number_small e)) in
    grind (arith, common_steps)

pub examples : Examples
unfolding digits spaced_numbers box_line report_text refusal_line
examples = (refl, (λ b. refl), refl)

pub ruleset tells = (spaced-nil, spaced-cons, spaced-more, report-nil)
