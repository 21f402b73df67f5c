-- When a report is refused, and what is told and written where it is not.
use Rattle.std.proofs.Common.{◌≡◌, ℕ, ◌<◌, ◌≤◌, Bool, true, false, cond, ltb, List, length, Ok, Err, option_map, refl, ap, ◌∙◌, arith}
use Rattle.std.specs.List.{slice_get}
use Rattle.std.specs.Option.{ok_or}
use Rattle.std.proofs.lemmas.Bool.Decides.{nat_tests}
use Rattle.base.specs.declared.refusal.Refusal.{Refusal}
use Rattle.base.specs.declared.refusal.Refusal.TheVariants as refusal
use Rattle.base.specs.Buffers.{with_front, len_if_room, front_len, front_after}
use Rattle.sets.specs.declared.box_number.BoxNumber.{BoxNumber}
use Rattle.sets.specs.Companies.{is_company}
use Rattle.machine.specs.declared.place.Standing.{Standing}
use Rattle.machine.specs.Places.{standing_of}
use Rattle.machine.specs.State.{State}
use Rattle.machine.specs.RowCheck.{bad_row, is_over}
use Rattle.machine.specs.AskCall.{on_ask}
use Rattle.base.proofs.NumberedLemmas.{get_some}
use Rattle.reports.specs.Reports.{report_text, report_or_refusal}
use Rattle.proposals.specs.Kinds.{Kind}

module _ {K : Type 0} (s : State K) where
  -- a row that is not refused has a place for each box of the company
  pub places : is_company s.wire.n s.t ≡ true → bad_row s ≡ false → (2 ≤ length s.row) × (length s.row ≤ 32)
  unfolding bad_row
  places n good = (grind (arith, nat_tests), grind (arith, nat_tests))

  module _ (p : BoxNumber) where
    asked_bad : bad_row s ≡ true → on_ask p s ≡ Err refusal.Row
    unfolding on_ask
    asked_bad bad = grind arith

    asked_good : bad_row s ≡ false → on_ask p s ≡ ok_or (option_map standing_of (slice_get s.row p.0)) refusal.Stranger
    unfolding on_ask
    asked_good good = grind arith

    asked_one : is_company s.wire.n s.t ≡ true → p.0 < 2 → bad_row s ≡ false → (x : Standing K) × (on_ask p s ≡ Ok x)
    asked_one n low good =
        let some = places n good in
        let x = get_some s.row p.0 (omega (arith, some.0)) in
        (standing_of x.0, asked_good good ∙ ap (λ o. ok_or (option_map standing_of o) refusal.Stranger) x.1)

    -- a row of which one may ask is not refused
    pub good : (x : Standing K) → Ok x ≡ on_ask p s → bad_row s ≡ false
    good x is = by (bad_row s) refl
      where
        by : (b : Bool) → bad_row s ≡ b → bad_row s ≡ false
        by true bad = absurd (let a = asked_bad bad in grind arith)
        by false e = e

    -- and one that is not refused has the first two places, since a company has two boxes at least
    pub refused : is_company s.wire.n s.t ≡ true → p.0 < 2 → (e : Refusal) → Err e ≡ on_ask p s → (bad_row s ≡ true) × (e ≡ refusal.Row)
    refused n low e is = by (bad_row s) refl
      where
        by : (b : Bool) → bad_row s ≡ b → (bad_row s ≡ true) × (e ≡ refusal.Row)
        by true bad = (bad, let a = asked_bad bad in grind arith)
        by false ok = absurd (let a = asked_one n low ok in let b = a.1 in grind arith)

  module _ (kind : Kind K) (room : ℕ) where
    pub report_bad : bad_row s ≡ true → report_or_refusal kind room s ≡ Err refusal.Row
    unfolding report_or_refusal
    report_bad bad = grind arith

    pub report_silent : bad_row s ≡ false → is_over s ≡ false → report_or_refusal kind room s ≡ Err refusal.Silent
    unfolding report_or_refusal
    report_silent good none = grind arith

    pub report_rung : bad_row s ≡ false → is_over s ≡ true
        → report_or_refusal kind room s
        ≡ cond (ltb room (length (report_text kind s.row))) (Err refusal.Narrow) (Ok (report_text kind s.row))
    unfolding report_or_refusal
    report_rung good some = grind arith

    -- what is told and written where the row is not refused and a box rings
    pub report_told : (out : List ℕ) → length out ≡ room → bad_row s ≡ false → is_over s ≡ true
        → (len_if_room (report_text kind s.row) out ≡ front_len (report_or_refusal kind room s))
        × (with_front (report_text kind s.row) out ≡ front_after (report_or_refusal kind room s) out)
    report_told out long good some = let r = report_rung good some in (grind (arith, nat_tests), grind (arith, nat_tests))
