use Rattle.std.proofs.Common.{ℕ, Bool, not, ◌&&◌, ltb, ap, ◌∙◌}
use Rattle.sets.specs.Masks.{member}
use Rattle.sets.proofs.BitLemmas.{set_ext}
use Rattle.sets.proofs.MemberLemmas.{member_is}
use Rattle.boxes.proofs.states.Listening.unheard.Goals as goal

pub returns : goal.returns
returns g c =
    let company : ℕ → Bool = λ i. ltb i c.args.self.resting.held.n in
    let heard = member c.args.self.notes.heard in
    c.difference.ensures
    ∙ set_ext _ (λ i. company i && not (heard i)) (λ i l. ap (λ z. z && not (heard i)) (member_is company c.«all_below».result c.«all_below».ensures i l))
