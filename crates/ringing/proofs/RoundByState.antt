-- A round: when it may be played, and its state as it is opened and as all have posted.
use Rattle.std.proofs.Common.{◌≡◌, ℕ, ◌+◌, ◌<◌, ◌≤◌, true, false, List, Ok, Err, Result, refl, sym, arith}
use Rattle.std.proofs.lemmas.Bool.Decides.{nat_tests}
use Rattle.base.specs.declared.refusal.Refusal.{Refusal}
use Rattle.base.specs.declared.refusal.Refusal.TheVariants as refusal
use Rattle.sets.specs.Companies.{is_company}
use Rattle.frames.specs.Frames.{longest_frame}
use Rattle.wire.specs.WireState.{WireState, IsWellFormed, on_open}
use Rattle.machine.specs.State.{State}
use Rattle.machine.specs.RowCheck.{bad_row, is_over}
use Rattle.machine.specs.RoundCall.{wire_in_round, state_after_round, on_round}
use Rattle.base.specs.Results.{answer}
use Rattle.machine.specs.declared.place.Place.{Place}
use Rattle.machine.specs.MachineLaws.{RefusesNothing, RoundRefusesNothing}
use Rattle.ringing.specs.Exchanges.{InRound}
use Rattle.ringing.specs.RingingStates.{state}
use Rattle.proposals.specs.Kinds.{Kind}

module _ {K : Type 0} (kind : Kind K) (room : ℕ) (s : State K) where
  pub play_bad : bad_row s ≡ true → answer (on_round kind room s) ≡ Err refusal.Row
  unfolding on_round
  play_bad b = grind arith

  pub play_narrow : bad_row s ≡ false → room < longest_frame → answer (on_round kind room s) ≡ Err refusal.Narrow
  unfolding on_round
  play_narrow b l = grind (arith, nat_tests)

  pub play_over : bad_row s ≡ false → longest_frame ≤ room → is_over s ≡ true → answer (on_round kind room s) ≡ Err refusal.Over
  unfolding on_round
  play_over b l o = grind (arith, nat_tests)

  pub play_ok : bad_row s ≡ false → longest_frame ≤ room → is_over s ≡ false → answer (on_round kind room s) ≡ Ok tt
  unfolding on_round
  play_ok b l o = grind (arith, nat_tests)

  -- what was checked
  pub played_ok : Ok tt ≡ answer (on_round kind room s)
      → (bad_row s ≡ false) × (is_over s ≡ false) × (longest_frame ≤ room) × (on_round kind room s ≡ Ok (state_after_round kind s))
  unfolding on_round
  played_ok e = (grind (arith, nat_tests), grind (arith, nat_tests), grind (arith, nat_tests), grind (arith, nat_tests))

  pub played_not : (e : Refusal) → Err e ≡ answer (on_round kind room s) → on_round kind room s ≡ Err e
  played_not e is = by (on_round kind room s) is
    where
      by : (r : Result (State K) Refusal) → Err e ≡ answer r → r ≡ Err e
      by (Ok x) is = absurd (grind arith)
      by (Err x) is = cc

module _ {K : Type 0} (kind : Kind K) (s : State K) (goes : RefusesNothing kind s) where
  -- what is posted does not count for it
  pub goes_opened : RefusesNothing kind (record s { wire = on_open s.wire })
  goes_opened = record { places = goes.places; ahead = goes.ahead; own = goes.own; posts = goes.posts; fetches = goes.fetches; hears = goes.hears; closes = goes.closes }

  pub in_round : (w : WireState) → w ≡ wire_in_round kind s → InRound kind w (record s { wire = wire_in_round kind s })
  in_round w e = record {
    wire = sym e;
    goes = record { places = goes.places; ahead = goes.ahead; own = goes.own; posts = goes.posts; fetches = goes.fetches; hears = goes.hears; closes = goes.closes };
    carries = λ q. refl;
  }

pub state_same : {K : Type 0} {s u : State K} → s.wire ≡ u.wire → s.t ≡ u.t → s.closed ≡ u.closed → s.row ≡ u.row → s ≡ u
state_same a b c d = λ j. record { wire = a j; t = b j; closed = c j; row = d j }

-- what a round may rely on, where the checks let it be played
pub goes_on : {K : Type 0} (kind : Kind K) → RoundRefusesNothing kind
    → (m : WireState) (t closed : ℕ) (row : List (Place K)) (room : ℕ) → IsWellFormed m → is_company m.n t ≡ true
    → Ok tt ≡ answer (on_round kind room (state m t closed row))
    → RefusesNothing kind (state m t closed row)
goes_on kind law m t closed row room formed size_ok ok =
    let p = played_ok kind room (state m t closed row) ok in law (state m t closed row) row refl formed size_ok p.0 p.1

-- there are few rounds
pub rounds_fit : (n t closed : ℕ) → is_company n t ≡ true → closed ≤ t → closed + 1 ≤ 32
rounds_fit n t closed kind l = grind (arith, nat_tests)
