-- What the row check means, and when a ringing is made.
use Rattle.std.specs.List.{slice_get}
use Rattle.std.proofs.Common.{◌≡◌, ℕ, false, ◌&&◌, is_some, Some, ap, arith}
use Rattle.std.proofs.lemmas.Bool.Decides.{nat_tests}
use Rattle.base.specs.Counts.{any}
use Rattle.base.proofs.CountLemmas.{any_none, none_any}
use Rattle.base.proofs.NumberedLemmas.{none_numbered}
use Rattle.sets.specs.Masks.{member}
use Rattle.proposals.specs.Kinds.{Kind}
use Rattle.machine.specs.Places.{PlaceState, at_rest, down, rung}
use Rattle.machine.specs.State.{is_gone}
use Rattle.machine.specs.MakeCall.{on_make}
use Rattle.machine.specs.RowCheck.{is_misplaced, bad_row}
use Rattle.machine.specs.FallCall.{on_fall}
use Rattle.machine.specs.RoundCall.{on_round}
use Rattle.machine.specs.OrderCalls.{on_draw, on_report}
use Rattle.machine.specs.AskCall.{on_ask}
use Rattle.machine.specs.MachineLaws.{MakeIsAccepted, BadRowIsFirst, GoodRowMeans}

pub make_accepted : {K : Type 0} → MakeIsAccepted K
unfolding on_make
make_accepted n t m places proposals kind len given joins all =
    let none = none_any (is_gone m) n (λ q l. let a = all q l in let b = ap is_some a.1 in grind arith) in
    grind (arith, nat_tests)

pub row_first : {K : Type 0} (kind : Kind K) → BadRowIsFirst kind
unfolding on_fall on_round on_draw on_report on_ask
row_first kind s bad = (λ q lost. grind arith, λ room. grind arith, λ p. grind arith, λ p. grind arith, λ b p r. grind arith)

pub row_means : {K : Type 0} → GoodRowMeans K
unfolding bad_row
row_means {K} s good = (
  grind (arith, nat_tests),
  λ p b at. let f : is_misplaced s p (at_rest b) ≡ false = fits p (at_rest b) at in
      let none : any (λ q. member b.missing q && member s.wire.up q) 32 ≡ false = grind arith in (
        grind arith,
        grind (arith, nat_tests),
        grind (arith, nat_tests),
        grind (arith, nat_tests),
        grind (arith, nat_tests),
        λ q l m. let a = any_none (λ q. member b.missing q && member s.wire.up q) 32 none q l in grind arith,
      ),
  λ p r at. let f : is_misplaced s p (down r) ≡ false = fits p (down r) at in grind arith,
  λ p x at. let f : is_misplaced s p (rung x) ≡ false = fits p (rung x) at in (grind arith, grind (arith, nat_tests), grind (arith, nat_tests)),
  grind (arith, nat_tests),
)
  where
    fits : (p : ℕ) (x : PlaceState K) → slice_get s.row p ≡ Some x → is_misplaced s p x ≡ false
    fits p x at = none_numbered (is_misplaced s) s.row (grind arith) p x at
