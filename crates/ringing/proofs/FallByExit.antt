-- Telling a ringing that a box falls, exit by exit.
use Rattle.std.specs.Prelude.{nat_le}
use Rattle.std.proofs.Common.{◌≡◌, ℕ, ◌<◌, ◌≤◌, true, false, [], ◌∷◌, Ok, Err, OnErr, Result, refl, arith}
use Rattle.std.specs.Bool.{⊤}
use Rattle.std.proofs.lemmas.Bool.Decides.{nat_tests}
use Rattle.base.specs.declared.refusal.Refusal.{Refusal}
use Rattle.base.specs.declared.refusal.Refusal.TheVariants as refusal
use Rattle.sets.specs.declared.box_number.BoxNumber.{BoxNumber}
use Rattle.sets.specs.declared.set.BoxSet.{BoxSet}
use Rattle.base.specs.Refusals.{unless}
use Rattle.base.specs.Results.{and_then}
use Rattle.wire.specs.WireState.{WireState, on_fall as wire_on_fall}
use Rattle.machine.specs.State.{State, gone_count}
use Rattle.machine.specs.RowCheck.{bad_row, row_verdict, is_over, going_on_verdict}
use Rattle.machine.specs.FallCall.{on_fall}
use Rattle.base.specs.Results.{answer, or_kept}

pub is_checked : {K : Type 0} (s : State K) → Ok tt ≡ row_verdict s → bad_row s ≡ false
is_checked s e = grind arith

pub not_checked : {K : Type 0} (s : State K) (e : Refusal) → Err e ≡ row_verdict s → (bad_row s ≡ true) × (e ≡ refusal.Row)
not_checked s e is = (grind arith, grind arith)

-- the wire's answer alone
pub falls_not : (r : Result WireState Refusal) (e : Refusal) → Err e ≡ answer r → r ≡ Err e
falls_not (Ok m) e is = absurd (grind arith)
falls_not (Err x) e is = cc

pub falls_so : (r : Result WireState Refusal) (m then : WireState) → Ok tt ≡ answer r → then ≡ or_kept m r → r ≡ Ok then
falls_so (Ok x) m then e is = cc
falls_so (Err x) m then e is = absurd (grind arith)

module _ {K : Type 0} (q : BoxNumber) (lost : BoxSet) (s : State K) where
  -- an accepted one is one that the wire accepts
  pub told_ok : Ok tt ≡ answer (on_fall q lost s)
      → (m : WireState) × (wire_on_fall q.0 lost s.wire ≡ Ok m) × (on_fall q lost s ≡ Ok (record s { wire = m }))
  unfolding on_fall
  told_ok e = by (wire_on_fall q.0 lost s.wire) refl e
    where
      by : (r : Result WireState Refusal) → wire_on_fall q.0 lost s.wire ≡ r
          → Ok tt ≡ answer (and_then (λ e. e) (going_on_verdict s) (λ _. and_then (λ e. e) r (λ m.
          unless ((nat_le s.t (gone_count s.wire), refusal.Spent) ∷ []) (record s { wire = m }))))
          → (m : WireState) × (wire_on_fall q.0 lost s.wire ≡ Ok m)
          × (and_then (λ e. e) (going_on_verdict s) (λ _. and_then (λ e. e) (wire_on_fall q.0 lost s.wire) (λ m.
          unless ((nat_le s.t (gone_count s.wire), refusal.Spent) ∷ []) (record s { wire = m }))) ≡ Ok (record s { wire = m }))
      by (Ok m) is e = (m, is, grind arith)
      by (Err x) is e = absurd (grind arith)

  pub tell_bad : bad_row s ≡ true → on_fall q lost s ≡ Err refusal.Row
  unfolding on_fall
  tell_bad b = grind arith

  module _ (good : bad_row s ≡ false) where
    pub tell_over : is_over s ≡ true → on_fall q lost s ≡ Err refusal.Over
    unfolding on_fall
    tell_over o = grind arith

    module _ (still : is_over s ≡ false) where
      pub tell_refused : (e : Refusal) → wire_on_fall q.0 lost s.wire ≡ Err e → on_fall q lost s ≡ Err e
      unfolding on_fall
      tell_refused e is = grind arith

      pub tell_spent : (m : WireState) → wire_on_fall q.0 lost s.wire ≡ Ok m → s.t ≤ gone_count s.wire
          → on_fall q lost s ≡ Err refusal.Spent
      unfolding on_fall
      tell_spent m is l = grind (arith, nat_tests)

      -- by the wire's answer alone
      module _ (r : Result ⊤ Refusal) (told : r ≡ answer (wire_on_fall q.0 lost s.wire)) where
        pub answer_refused : (e : Refusal) → r ≡ Err e → answer (on_fall q lost s) ≡ Err e
        unfolding on_fall
        answer_refused e is = grind arith

        pub answer_spent : r ≡ Ok tt → s.t ≤ gone_count s.wire → answer (on_fall q lost s) ≡ Err refusal.Spent
        unfolding on_fall
        answer_spent is l = grind (arith, nat_tests)

        pub answer_ok : r ≡ Ok tt → gone_count s.wire < s.t → answer (on_fall q lost s) ≡ Ok tt
        unfolding on_fall
        answer_ok is l = grind (arith, nat_tests)

      pub tell_ok : (m : WireState) → wire_on_fall q.0 lost s.wire ≡ Ok m → gone_count s.wire < s.t
          → on_fall q lost s ≡ Ok (record s { wire = m })
      unfolding on_fall
      tell_ok m is l = grind (arith, nat_tests)

-- a company stays as large
pub falls_size : (q : ℕ) (lost : BoxSet) (m : WireState) → (or_kept m (wire_on_fall q lost m)).n ≡ m.n
unfolding wire_on_fall
falls_size q lost m = grind arith

-- what is accepted is not refused
pub not_refused : {X E : Type 0} (P : Type 0) (r : Result X E) {x : X} → r ≡ Ok x → OnErr r P
not_refused P (Ok y) e = tt
not_refused P (Err y) e = absurd (grind arith)
