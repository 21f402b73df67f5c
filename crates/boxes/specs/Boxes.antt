-- A box at rest: which one is made, and what it sends. To be believed for boxes.
use Rattle.std.specs.Prelude.{ℕ, ◌+◌, false, not, [], ◌∷◌, Result, nat_le}
use Rattle.base.specs.declared.refusal.Refusal.{Refusal}
use Rattle.base.specs.declared.refusal.Refusal.TheVariants.{Stranger, Company}
use Rattle.base.specs.Refusals.{unless}
use Rattle.sets.specs.declared.box_number.BoxNumber.{BoxNumber}
use Rattle.sets.specs.declared.round_number.RoundNumber.{RoundNumber}
use Rattle.sets.specs.Companies.{is_company}
use Rattle.sets.specs.Masks.{set_of}
use Rattle.frames.specs.declared.frame.Frame.{Frame}
use Rattle.boxes.specs.declared.states.Held.{Held}

-- what a new box holds: it has closed no round, has its own proposal for its estimate and misses nobody
abbrev pub first_held : {K : Type 0} → BoxNumber → ℕ → ℕ → K → Held K
first_held number n t proposal = record {
  number = number;
  n = n;
  t = t;
  closed = 0;
  estimate = proposal;
  missing = set_of (λ _. false);
  horizon = record { 0 = t + 1 };
}

-- what is made, or why not
abbrev pub new_box : {K : Type 0} → BoxNumber → ℕ → ℕ → K → Result (Held K) Refusal
new_box number n t proposal =
    unless
    ((not (is_company n t), Company)
    ∷ (nat_le n number.0, Stranger)
    ∷ [])
    (first_held number n t proposal)

-- the round that a box opens next, or has open
abbrev pub next_round : {K : Type 0} → Held K → RoundNumber
next_round b = record { 0 = b.closed + 1 }

-- what it sends in that round
abbrev pub frame_of : {K : Type 0} → Held K → Frame K
frame_of b = record { round = next_round b; sender = b.number; missing = b.missing; estimate = b.estimate }
