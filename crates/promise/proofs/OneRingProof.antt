-- All that are told to ring do so at once.
use Rattle.std.specs.List.{slice_get}
use Rattle.std.specs.Option.{ok_or}
use Rattle.std.proofs.Common.{◌≡◌, ℕ, ◌<◌, Bool, true, false, cond, ◌&&◌, eqb, leb, ltb, ◌⊎◌, List, Some, None, Ok, Option, option_map, sym, refl, ap, ◌∙◌, subst, inl, inr, arith}
use Rattle.std.proofs.lemmas.Bool.{cases_Bool, cases_eq, eqb-true}
use Rattle.std.proofs.lemmas.Bool.Decides.{nat_tests}
use Rattle.base.specs.declared.refusal.Refusal.TheVariants.{Stranger}
use Rattle.sets.specs.declared.box_number.BoxNumber.{BoxNumber}
use Rattle.proposals.specs.Orders.{goes_before}
use Rattle.proposals.specs.Kinds.{Kind}
use Rattle.rule.specs.Falls.{closes}
use Rattle.rule.specs.Histories.{History, ringing_round}
use Rattle.rule.specs.RuleValues as rule
use Rattle.rule.specs.RuleLaws.{RingsIn, BoxBegins, BoxRests, BoxFollowsSent, Agreement}
use Rattle.rule.proofs.WasteLemmas.{waste_few}
use Rattle.machine.specs.declared.place.Blow.{Blow}
use Rattle.machine.specs.declared.place.Rung.{Rung}
use Rattle.machine.specs.declared.place.Standing.TheVariants as standing
use Rattle.machine.specs.Places.{PlaceState, at_rest, down, rung, standing_of, with_its_blow}
use Rattle.machine.specs.State.{State, has_rung}
use Rattle.machine.specs.OrderCalls.{with_blows}
use Rattle.machine.specs.AskCall.{on_ask}
use Rattle.machine.proofs.BlowsDoNotCount.{asks_ok}
use Rattle.promise.specs.CallLog.{Log}
use Rattle.promise.specs.StateByHistory.{place_by, state_by}
use Rattle.promise.specs.Promise.{ToldRinging, tells_ringing, has_closed, OneRing}
use Rattle.promise.proofs.KeptFromCallToCall.{Going, Kept}
use Rattle.promise.proofs.ToldByLog.{row_good, at, rings_at, rungs}

-- what is told to ring stands there so
told_place : {K : Type 0} (o : Option (PlaceState K)) (x : Rung K) → ok_or (option_map standing_of o) Stranger ≡ Ok (standing.Rung x)
    → o ≡ Some (rung x)
told_place None x e = absurd (grind arith)
told_place (Some (at_rest b)) x e = absurd (grind arith)
told_place (Some (down r)) x e = absurd (grind arith)
told_place (Some (rung y)) x e = cc

module _ {K : Type 0} (kind : Kind K) (unopened : ℕ → Option (List ℕ)) (h : History K)
    (g : Going kind unopened (state_by kind h unopened) h)
    (blows : ℕ → Blow) (agree : Agreement h kind) (begins : BoxBegins h kind) (rests : BoxRests h kind)
    (follows : BoxFollowsSent h kind) where
  abbrev s : State K
  s = with_blows blows (state_by kind h unopened)

  abbrev stands : ℕ → PlaceState K
  stands p = with_its_blow (blows p) (place_by kind h p)

  rung_kept : (p : ℕ) → has_rung (stands p) ≡ has_rung (place_by kind h p)
  rung_kept p = by (place_by kind h p)
    where
      by : (x : PlaceState K) → has_rung (with_its_blow (blows p) x) ≡ has_rung x
      by (at_rest b) = refl
      by (down r) = refl
      by (rung x) = refl

  -- what it means that a box is told to ring
  record Rings (p : ℕ) (x : Rung K) : Type 0 where
    in_last : RingsIn h p h.closed
    round : x.round.0 ≡ h.closed
    proposal : x.proposal ≡ rule.estimate h kind p h.closed

  told : (p : BoxNumber) (x : Rung K) → ToldRinging s p x → Rings p.0 x
  told p x e = by (cases_Bool (ltb p.0 h.n))
    where
      there : slice_get s.row p.0 ≡ Some (rung x)
      there = told_place (slice_get s.row p.0) x (sym (asks_ok s p (row_good kind unopened h g blows)) ∙ e)

      is : cond (ltb p.0 h.n) (Some (stands p.0)) None ≡ Some (rung x)
      is = sym (at kind unopened h g blows p.0) ∙ there

      by : (ltb p.0 h.n ≡ true) ⊎ (ltb p.0 h.n ≡ false) → Rings p.0 x
      by (inr l) = absurd (let n : None ≡ Some (rung x) = ap (λ t. cond t (Some (stands p.0)) None) (sym l) ∙ is in grind arith)
      by (inl l) =
          let f : Some (stands p.0) ≡ Some (rung x) = ap (λ t. cond t (Some (stands p.0)) None) (sym l) ∙ is in
          let same : stands p.0 ≡ rung x = cc in
          let both : (closes h.falls p.0 h.closed && rule.rings h p.0 h.closed) ≡ true = sym (rings_at kind unopened h g blows p.0) ∙ sym (rung_kept p.0) ∙ ap has_rung same in
          let r = rungs kind unopened h g blows p.0 x there in
          record { in_last = (grind (arith, nat_tests), grind arith, grind arith); round = r.0; proposal = r.1 }

  -- the round is t + 1 - D
  round_is : (p : ℕ) → RingsIn h p h.closed → h.closed ≡ ringing_round h
  round_is p r = eqb-true h.closed (ringing_round h) (sym ((agree g.allowed).0 p r.0 r.1) ∙ r.2)

  exact : (p : BoxNumber) → tells_ringing (on_ask p s) ≡ has_closed h p.0 (ringing_round h)
  exact p = ap tells_ringing (asks_ok s p (row_good kind unopened h g blows) ∙ ap (λ o. ok_or (option_map standing_of o) Stranger) (at kind unopened h g blows p.0)) ∙ split (ltb p.0 h.n) refl
    where
      tells : (x : PlaceState K) → tells_ringing (Ok (standing_of x)) ≡ has_rung x
      tells (at_rest b) = refl
      tells (down r) = refl
      tells (rung x) = refl

      begun : leb 1 (ringing_round h) ≡ true
      begun = let w = waste_few h g.allowed h.closed in grind (arith, nat_tests)

      here : (p.0 < h.n) → (h.closed ≡ ringing_round h) ⊎ (h.closed ≡ ringing_round h → ⊥)
          → (closes h.falls p.0 h.closed ≡ true) ⊎ (closes h.falls p.0 h.closed ≡ false)
          → (closes h.falls p.0 h.closed && rule.rings h p.0 h.closed)
          ≡ (leb 1 (ringing_round h) && leb (ringing_round h) h.closed && closes h.falls p.0 (ringing_round h))
      here l (inl e) (inl c) =
          let r = (agree g.allowed).0 p.0 l c in
          let d : closes h.falls p.0 (ringing_round h) ≡ true = ap (closes h.falls p.0) (sym e) ∙ c in
          let b = begun in
          grind (arith, nat_tests)
      here l (inl e) (inr c) =
          let d : closes h.falls p.0 (ringing_round h) ≡ false = ap (closes h.falls p.0) (sym e) ∙ c in
          grind (arith, nat_tests)
      here l (inr off) c =
          let passed = (agree g.allowed).1 g.quiet in
          let late : leb (ringing_round h) h.closed ≡ false = grind (arith, nat_tests) in
          no c (let q : eqb h.closed (ringing_round h) ≡ false = grind (arith, nat_tests) in q) late
        where
          no : (closes h.falls p.0 h.closed ≡ true) ⊎ (closes h.falls p.0 h.closed ≡ false) → eqb h.closed (ringing_round h) ≡ false
              → leb (ringing_round h) h.closed ≡ false
              → (closes h.falls p.0 h.closed && rule.rings h p.0 h.closed)
              ≡ (leb 1 (ringing_round h) && leb (ringing_round h) h.closed && closes h.falls p.0 (ringing_round h))
          no (inl c) q late = let r = (agree g.allowed).0 p.0 l c ∙ q in grind arith
          no (inr c) q late = grind arith

      split : (t : Bool) → ltb p.0 h.n ≡ t
          → tells_ringing (ok_or (option_map standing_of (cond t (Some (stands p.0)) None)) Stranger)
          ≡ (t && leb 1 (ringing_round h) && leb (ringing_round h) h.closed && closes h.falls p.0 (ringing_round h))
      split false l = refl
      split true l =
          tells (stands p.0) ∙ rung_kept p.0 ∙ rings_at kind unopened h g blows p.0
          ∙ here (grind (arith, nat_tests)) (cases_eq h.closed (ringing_round h)) (cases_Bool (closes h.falls p.0 h.closed))

  pub one_ring : OneRing kind s h
  one_ring = record {
    one_round = λ p q x y a b. let e = told p x a in let f = told q y b in λ j. record { 0 = (e.round ∙ sym f.round) j };
    one_proposal = λ p q x y a b. let e = told p x a in let f = told q y b in e.proposal ∙ (agree g.allowed).3 p.0 q.0 e.in_last f.in_last ∙ sym f.proposal;
    reached = λ p x a. let e = told p x a in e.proposal ∙ ap (rule.estimate h kind p.0) (sym e.round);
    proposed = λ p x a. let e = told p x a in let q = (agree g.allowed).4 p.0 e.in_last in (q.0, q.1, e.proposal ∙ q.2);
    foremost = λ p q x y a b. let e = told p x a in let f = told q y b in ap (goes_before kind.leads (h.proposals q.0)) e.proposal ∙ (agree g.allowed).5 p.0 q.0 e.in_last f.in_last;
    exactly = exact;
    at = λ p x a. let e = told p x a in e.round ∙ round_is p.0 e.in_last;
    begins = begins;
    rests = rests;
    closes = follows;
  }

pub rings_once : {K : Type 0} (kind : Kind K) (unopened : ℕ → Option (List ℕ)) (s : State K) (c : Log K)
    → ((h : History K) → Agreement h kind) → ((h : History K) → BoxBegins h kind) → ((h : History K) → BoxRests h kind)
    → ((h : History K) → BoxFollowsSent h kind) → Kept kind unopened s c
    → OneRing kind s c.history
rings_once kind unopened s c agree begins rests follows k =
    subst (λ x. OneRing kind x c.history) (sym k.is)
    (one_ring kind unopened c.history k.going c.blows (agree c.history) (begins c.history) (rests c.history) (follows c.history))
