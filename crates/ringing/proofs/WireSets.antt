-- What the sets of a wire say of its meaning.
use Rattle.std.proofs.Common.{◌≡◌, ℕ, ◌^◌, ◌<◌, Bool, true, false, not, ◌&&◌, eqb, ltb, is_some, Some, None, Option, sym, refl, ap, ◌∙◌, arith}
use Rattle.std.proofs.lemmas.Bool.{eqb-true, eq-eqb}
use Rattle.std.proofs.lemmas.Bool.Decides.{nat_tests}
use Rattle.sets.specs.declared.set.BoxSet.{BoxSet}
use Rattle.base.specs.Counts.{any}
use Rattle.sets.specs.Masks.{bit, member, set_of}
use Rattle.sets.proofs.BitLemmas.{set_ext}
use Rattle.base.proofs.CountLemmas.{any_ext, any_has, any_none}
use Rattle.sets.proofs.MemberLemmas.{member_is, member_below}
use Rattle.wire.specs.WireState.{WireState, IsWellFormed, falling_set}
use Rattle.machine.specs.State.{is_gone}

module _ (m : WireState) (w : IsWellFormed m) where
  -- who falls is of the company, and up
  pub lost_placed : (q : ℕ) → is_some (m.lost q) ≡ true → (q < m.n) × (member m.up q ≡ true)
  lost_placed q e = by (m.lost q) refl
    where
      by : (o : Option BoxSet) → m.lost q ≡ o → (q < m.n) × (member m.up q ≡ true)
      by None is = absurd (grind arith)
      by (Some s) is = let f = w.falling q s is in (member_below m.n m.up q w.up_within f.0, f.0)

  pub falling_member : (s : BoxSet) → s ≡ falling_set m → (q : ℕ) → q < 32
      → (member s q ≡ is_some (m.lost q)) × (is_some (m.lost q) ≡ (ltb q m.n && is_some (m.lost q)))
  falling_member s e q l =
      let p = lost_placed q in
      (member_is (λ i. is_some (m.lost i)) s e q l, grind (arith, nat_tests))

  pub few : m.n < 33
  few = let s = w.size in grind (arith, nat_tests)

  -- to miss a box that is not down is to miss one that is up
  pub misses_up : (missing d : BoxSet) → d ≡ set_of (λ q. ltb q m.n && not (member m.up q)) → missing.mask < 2 ^ m.n
      → any (λ i. member missing i && not (member d i)) 32 ≡ any (λ q. member missing q && member m.up q) 32
  misses_up missing d e within = any_ext (λ i. member missing i && not (member d i)) (λ q. member missing q && member m.up q) 32 (λ i l.
      let a = member_is (λ q. ltb q m.n && not (member m.up q)) d e i l in
      let k = member_below m.n missing i within in
      grind (arith, nat_tests))

  -- whether a box is down or falling
  pub some_gone : (s e : BoxSet) → s ≡ set_of (λ q. ltb q m.n && is_gone m q) → e ≡ set_of (λ _. false)
      → any (is_gone m) m.n ≡ not (eqb s.mask e.mask)
  some_gone s e is none = by (any (is_gone m) m.n) refl
    where
      one_gone : (k : ℕ) × (k < m.n) × (is_gone m k ≡ true) → eqb s.mask e.mask ≡ false
      one_gone (k, l, g) =
          let f = few in
          let a = member_is (λ q. ltb q m.n && is_gone m q) s is k (omega arith) in
          let b = member_is (λ _. false) e none k (omega arith) in
          let same : eqb s.mask e.mask ≡ true → member s k ≡ member e k = λ t. ap (λ x. bit x k) (eqb-true s.mask e.mask t) in
          grind (arith, nat_tests)

      by : (t : Bool) → any (is_gone m) m.n ≡ t → any (is_gone m) m.n ≡ not (eqb s.mask e.mask)
      by true is_so = is_so ∙ sym (ap not (one_gone (any_has (is_gone m) m.n is_so)))
      by false is_so =
          let same = is ∙ set_ext (λ q. ltb q m.n && is_gone m q) (λ _. false) (λ i _. let a = any_none (is_gone m) m.n is_so i in grind (arith, nat_tests)) ∙ sym none in
          is_so ∙ sym (ap not (eq-eqb s.mask e.mask (ap (λ x. x.mask) same)))
