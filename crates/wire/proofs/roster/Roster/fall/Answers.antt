use Rattle.std.proofs.Common.{◌≡◌, false, ◌&&◌, leb, set, Ok, sym, ap, subst, refl, ◌∙◌, arith}
use Rattle.std.proofs.lemmas.Bool.Decides.{nat_tests}
use Rattle.base.specs.Counts.{any}
use Rattle.base.specs.Results.{or_kept}
use Rattle.sets.specs.Masks.{member}
use Rattle.sets.proofs.MemberLemmas.{none_beyond}
use Rattle.wire.specs.Postable.{no_boxes, set_at, IsFalling}
use Rattle.wire.specs.WireState.{on_fall, with_falling}
use Rattle.wire.specs.Rosters.{roster_state}
use Rattle.wire.proofs.ListLemmas.{replaced}
use Rattle.wire.proofs.RosterLemmas.{entered, falling_within, kept_more, meaning_ext}
use Rattle.wire.proofs.roster.Roster.fall.Goals as goal

pub invariant_of-self-clause-losing : goal.invariant_of-self-clause-losing
invariant_of-self-clause-losing c =
    let r = c.args.self.now in
    let q = c.args.q.0 in
    let s = c.args.lost in
    let below : any (λ i. member s i && leb r.n i) 32 ≡ false = grind arith in
    let loses : IsFalling r.n r.up q s = (grind arith, none_beyond r.n s (omega arith) below, grind arith) in
    let at = replaced r.lost q s (no_boxes) (omega arith) in
    kept_more r.n q r.falling c.with-self.result r.few (falling_within r) (omega arith) c.with-self.ensures
    (IsFalling r.n r.up) (set_at r.lost) (set_at (set r.lost q s)) (subst (IsFalling r.n r.up q) (sym at.0) loses) (λ i e _. at.1 i e) r.losing

pub returns-clause-meaning : goal.returns-clause-meaning
unfolding on_fall
returns-clause-meaning c = λ frames.
    let r = c.args.self.now in
    let q = c.args.q.0 in
    let s = c.args.lost in
    let m = roster_state r frames in
    let falls : on_fall q s m ≡ Ok (with_falling q s m) = grind (arith, nat_tests) in
    let at = replaced r.lost q s (no_boxes) (omega arith) in
    let there = entered r.n q r.falling c.with-self.result r.few (falling_within r) (omega arith) c.with-self.ensures (set_at r.lost) (set_at (set r.lost q s)) s at.0 (λ i e _. at.1 i e) in
    meaning_ext _ _ refl refl there (λ _. refl) ∙ sym (ap (or_kept m) falls)
