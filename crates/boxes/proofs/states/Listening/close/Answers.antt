use Rattle.std.proofs.Common.{◌≡◌, ◌+◌, ◌≤◌, ap, arith}
use Rattle.sets.proofs.MemberLemmas.{inside_counts}
use Rattle.boxes.proofs.UnheardBoxes.{unheard_below, unheard_own}
use Rattle.boxes.proofs.states.Listening.close.Given as given
use Rattle.boxes.proofs.states.Listening.close.Goals as goal
use Rattle.boxes.proofs.states.Listening.close.Goals.{After-count-2}

-- a tally that is not refused: the boxes known missing are among those not heard, which are at most t
tallied : (g : given.Over) (c : After-count-2 g) → c.count-2.result ≤ c.args.self.resting.held.t
tallied g c =
    let s = c.is_subset.ensures in
    let kept = c.if-not-is_subset.false in
    let inside = inside_counts c.args.self.notes.known c.unheard-unheard.result (grind arith) in
    omega arith

pub overflow_sub-round : goal.overflow_sub-round
overflow_sub-round g c = omega (arith, tallied g (goal.at.overflow_sub-round g c).After-count-2)

pub invariant_of-result : goal.invariant_of-result
invariant_of-result g c =
    let l = c.args.self in
    let few = tallied g (goal.at.invariant_of-result g c).After-count-2 in
    let round : c.round-round.result.0 ≡ l.resting.held.closed + 1 = ap (λ z. z.0) c.round-round.ensures in
    let u = c.unheard-unheard.result in
    let e = c.unheard-unheard.ensures in
    record {
      several = l.resting.several;
      few = l.resting.few;
      fallible = l.resting.fallible;
      survived = l.resting.survived;
      placed = l.resting.placed;
      within = unheard_below l u e;
      present = unheard_own l u e;
      sparse = omega arith;
      ahead = grind arith;
      due = grind arith;
    }
