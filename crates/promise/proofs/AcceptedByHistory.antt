-- Which rounds and falls are accepted, and who rings, by the history.
use Rattle.std.specs.List.{slice_get}
use Rattle.std.proofs.Common.{◌≡◌, ℕ, suc, ◌<◌, Bool, true, false, cond, not, ◌&&◌, leb, ltb, ◌⊎◌, List, is_some, Some, None, Option, is_ok, sym, refl, ap, ◌∙◌, inl, inr, arith}
use Rattle.std.proofs.lemmas.Bool.{cases_Bool, both_ways}
use Rattle.std.proofs.lemmas.Option.{slice_get_within}
use Rattle.std.proofs.lemmas.Bool.Decides.{nat_tests}
use Rattle.base.proofs.CountLemmas.{any_none, any_has}
use Rattle.base.proofs.NumberedLemmas.{list_none, none_list}
use Rattle.sets.specs.declared.box_number.BoxNumber.{BoxNumber}
use Rattle.sets.specs.declared.set.BoxSet.{BoxSet}
use Rattle.proposals.specs.Kinds.{Kind}
use Rattle.machine.specs.Frames.{longest_frame}
use Rattle.machine.specs.WireState.{on_fall as wire_on_fall}
use Rattle.rule.specs.Falls.{fell_before, closes}
use Rattle.rule.specs.Histories.{History, IsAllowed}
use Rattle.rule.specs.RuleValues as rule
use Rattle.machine.specs.declared.place.Blow.TheVariants as blow
use Rattle.machine.specs.declared.place.Rung.{Rung}
use Rattle.machine.specs.Places.{PlaceState, rung}
use Rattle.machine.specs.State.{State, is_gone, has_rung}
use Rattle.machine.specs.RowCheck.{bad_row, is_over}
use Rattle.machine.specs.FallCall.{on_fall}
use Rattle.machine.specs.RoundCall.{on_round}
use Rattle.promise.specs.StateByHistory.{place_by, row_by, wire_by, state_by}
use Rattle.promise.specs.PromiseLaws.{somebody_rings, may_fall}
use Rattle.promise.proofs.StateByPlace.{at_place, row_length, gone_is, gone_counted, row_good, fallen_stands, resting_stands, rings_stands}

rung_same : {K : Type 0} (x y : Rung K) → rung x ≡ rung y → x ≡ y
rung_same x y e = cc

module _ {K : Type 0} (kind : Kind K) (unopened : ℕ → Option (List ℕ)) (h : History K) (allowed : IsAllowed h)
    (due : (q : ℕ) → is_some (h.falls q) ≡ fell_before (h.falls q) (suc (suc h.closed))) where
  abbrev s : State K
  s = state_by kind h unopened

  pub good : bad_row s ≡ false
  good = row_good kind h allowed.size unopened due allowed.few

  pub rung_is : (p : ℕ) → has_rung (place_by kind h p) ≡ (closes h.falls p h.closed && rule.rings h p h.closed)
  rung_is p = by (cases_Bool (closes h.falls p h.closed)) (cases_Bool (rule.rings h p h.closed))
    where
      by : (closes h.falls p h.closed ≡ true) ⊎ (closes h.falls p h.closed ≡ false)
          → (rule.rings h p h.closed ≡ true) ⊎ (rule.rings h p h.closed ≡ false)
          → has_rung (place_by kind h p) ≡ (closes h.falls p h.closed && rule.rings h p h.closed)
      by (inr c) r = let f = fallen_stands kind h allowed.size p c in ap has_rung f.3 ∙ (grind arith)
      by (inl c) (inl r) = ap has_rung (rings_stands kind h allowed.size unopened p c r) ∙ (grind arith)
      by (inl c) (inr r) = ap has_rung (resting_stands kind h allowed.size unopened p c r) ∙ (grind arith)

  -- what stands at a place of the company
  stands : (p : ℕ) → p < h.n → slice_get (row_by kind h) p ≡ Some (place_by kind h p)
  stands p l = at_place kind h allowed.size p ∙ ap (λ t. cond t (Some (place_by kind h p)) None) (let k : ltb p h.n ≡ true = grind (arith, nat_tests) in k)

  -- who rings does so in the last closed round on its estimate
  pub rings_are : (p : ℕ) (x : Rung K) → slice_get s.row p ≡ Some (rung x)
      → (x.round.0 ≡ h.closed) × (x.proposal ≡ rule.estimate h kind p h.closed) × (x.blow ≡ blow.Undrawn)
  rings_are p x at = by (cases_Bool (closes h.falls p h.closed)) (cases_Bool (rule.rings h p h.closed))
    where
      here : place_by kind h p ≡ rung x
      here =
          let l = slice_get_within (row_by kind h) p (rung x) at in
          let len = row_length kind h allowed.size in
          let e = stands p (omega arith) in
          cc

      by : (closes h.falls p h.closed ≡ true) ⊎ (closes h.falls p h.closed ≡ false)
          → (rule.rings h p h.closed ≡ true) ⊎ (rule.rings h p h.closed ≡ false)
          → (x.round.0 ≡ h.closed) × (x.proposal ≡ rule.estimate h kind p h.closed) × (x.blow ≡ blow.Undrawn)
      by (inr c) r = absurd (let f = fallen_stands kind h allowed.size p c in let e = f.3 in grind (arith, here))
      by (inl c) (inr r) = absurd (let e = resting_stands kind h allowed.size unopened p c r in grind (arith, here))
      by (inl c) (inl r) =
          let e : rung (record { round = record { 0 = h.closed }; proposal = rule.estimate h kind p h.closed; blow = blow.Undrawn }) ≡ rung x = sym (rings_stands kind h allowed.size unopened p c r) ∙ here in
          let same = rung_same _ x e in
          (ap (λ y. y.round.0) (sym same), ap (λ y. y.proposal) (sym same), ap (λ y. y.blow) (sym same))

  over_is : is_over s ≡ somebody_rings h
  over_is = by (somebody_rings h) refl
    where
      at_is : somebody_rings h ≡ false → (p : ℕ) (x : PlaceState K) → slice_get (row_by kind h) p ≡ Some x → has_rung x ≡ false
      at_is none p x at =
          let l = slice_get_within (row_by kind h) p x at in
          let len = row_length kind h allowed.size in
          let k : p < h.n = omega arith in
          let same : place_by kind h p ≡ x = (let e = stands p k in cc) in
          let r = any_none (λ p. closes h.falls p h.closed && rule.rings h p h.closed) h.n none p k in
          ap has_rung (sym same) ∙ rung_is p ∙ r

      one_rings : (k : ℕ) × (k < h.n) × ((closes h.falls k h.closed && rule.rings h k h.closed) ≡ true) → is_over s ≡ true
      one_rings (k, l, e) = from (is_over s) refl
        where
          from : (t : Bool) → is_over s ≡ t → is_over s ≡ true
          from true is = is
          from false is = absurd (both_ways (has_rung (place_by kind h k)) (list_none has_rung (row_by kind h) is k (place_by kind h k) (stands k l)) (rung_is k ∙ e))

      by : (t : Bool) → somebody_rings h ≡ t → is_over s ≡ somebody_rings h
      by true is = one_rings (any_has (λ p. closes h.falls p h.closed && rule.rings h p h.closed) h.n is) ∙ sym is
      by false is = none_list has_rung (row_by kind h) (at_is is) ∙ sym is

  pub rounds_are : (room : ℕ) → is_ok (on_round kind room s) ≡ (leb longest_frame room && not (somebody_rings h))
  unfolding on_round
  rounds_are room = let g = good in let o = over_is in grind (arith, nat_tests)

  pub falls_are : (q : BoxNumber) (lost : BoxSet) → is_ok (on_fall q lost s) ≡ may_fall h q.0 lost
  unfolding on_fall wire_on_fall wire_by
  falls_are q lost =
      let g = good in
      let o = over_is in
      let c = gone_counted kind h allowed.size unopened due in
      let d = due q.0 in
      let fell : q.0 < h.n → is_gone s.wire q.0 ≡ is_some (h.falls q.0) = λ l. gone_is kind h allowed.size unopened q.0 l ∙ sym d in
      grind (arith, nat_tests)
