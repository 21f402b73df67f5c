-- The boxes that a listening box has not heard.
use Rattle.std.proofs.Common.{◌≡◌, ◌^◌, ◌<◌, false, not, ◌&&◌, ltb, arith}
use Rattle.std.proofs.lemmas.Bool.Decides.{nat_tests}
use Rattle.sets.specs.declared.set.BoxSet.{BoxSet}
use Rattle.sets.specs.Masks.{member}
use Rattle.boxes.specs.declared.states.Listening.{Listening}
use Rattle.boxes.specs.BoxRounds.{unheard_boxes}
use Rattle.sets.proofs.BitLemmas.{mask_below}
use Rattle.sets.proofs.MemberLemmas.{member_is, member_only}

-- all below n, and it is none of them
module _ {K : Type 0} (l : Listening K) (s : BoxSet) (is : s ≡ unheard_boxes l.resting.held l.notes) where
  pub unheard_below : s.mask < 2 ^ l.resting.held.n
  unheard_below =
      (mask_below l.resting.held.n s.mask).1 (λ i m.
      member_only (λ k. ltb k l.resting.held.n && not (member l.notes.heard k)) (λ k. ltb k l.resting.held.n) s is (λ k e. grind arith) i (grind (arith, nat_tests)))

  pub unheard_own : member s l.resting.held.number.0 ≡ false
  unheard_own =
      let h = l.itself in
      let m = member_is (λ k. ltb k l.resting.held.n && not (member l.notes.heard k)) s is l.resting.held.number.0 (omega (arith, l.resting.placed, l.resting.few)) in
      grind arith
