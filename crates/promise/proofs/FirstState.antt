-- A ringing that was made: it is that of the history in which nothing has happened.
use Rattle.std.specs.List.{slice_get}
use Rattle.std.proofs.Common.{◌≡◌, ℕ, ◌^◌, ◌<◌, ◌≤◌, Bool, true, false, ◌&&◌, cond, ltb, ◌⊎◌, List, [], ◌∷◌, length, subst, get_or, is_some, Some, None, Ok, Option, option_map, sym, refl, ap, ◌∙◌, inl, inr, not-suc-le-zero, arith}
use Rattle.std.proofs.lemmas.Bool.{cases_Bool}
use Rattle.std.proofs.lemmas.Bool.Decides.{nat_tests}
use Rattle.std.proofs.lemmas.Option.{slice_get-get_or, slice_get_past}
use Rattle.base.specs.declared.refusal.Refusal.TheVariants as refusal
use Rattle.base.specs.Refusals.{unless}
use Rattle.base.specs.Counts.{any}
use Rattle.base.proofs.CountLemmas.{any_none, none_any, count_none}
use Rattle.base.proofs.NumberedLemmas.{list_ext, get-by_number}
use Rattle.sets.specs.declared.set.BoxSet.{BoxSet}
use Rattle.sets.specs.Companies.{is_company}
use Rattle.sets.specs.Masks.{member, set_of}
use Rattle.sets.proofs.BitLemmas.{bit_high}
use Rattle.sets.proofs.MemberLemmas.{set_kept, member_below}
use Rattle.proposals.specs.Kinds.{Kind}
use Rattle.machine.specs.Boxes.{first_held}
use Rattle.machine.specs.WireState.{WireState, IsWellFormed}
use Rattle.rule.specs.Falls.{no_falls, closes}
use Rattle.rule.specs.Histories.{History, IsAllowed}
use Rattle.rule.specs.RuleValues as rule
use Rattle.rule.specs.HeldValues.{held_after}
use Rattle.rule.specs.RuleLaws.{BoxBegins}
use Rattle.machine.specs.Places.{at_rest}
use Rattle.machine.specs.State.{State, is_gone}
use Rattle.machine.specs.MakeCall.{first_row, on_make}
use Rattle.promise.specs.CallLog.{first_history}
use Rattle.promise.specs.StateByHistory.{place_by, row_by, posted_by, wire_by}
use Rattle.promise.proofs.StateByPlace.{at_place, resting_stands}
use Rattle.promise.proofs.FallAccepted.{none_of}
use Rattle.promise.proofs.KeptFromCallToCall.{Going}

made_of : {X : Type 0} (a b : Bool) (x y : X) → unless ((a, refusal.Company) ∷ (b, refusal.Stranger) ∷ []) x ≡ Ok y → x ≡ y
made_of true b x y e = absurd (grind arith)
made_of false true x y e = absurd (grind arith)
made_of false false x y e = cc

-- what was checked as it was made
pub record Checked {K : Type 0} (n t places : ℕ) (m : WireState) (proposals : List K) (s : State K) : Type 0 where
  pub size : is_company n t ≡ true
  pub given : length proposals ≡ n
  pub wire_n : m.n ≡ n
  pub none_gone : any (is_gone m) n ≡ false
  pub is : s ≡ record { wire = m; t = t; closed = 0; row = first_row n t proposals }

module _ {K : Type 0} (n t places : ℕ) (m : WireState) (proposals : List K) (s : State K)
    (made : on_make n t m places proposals ≡ Ok s) where
  pub checked : Checked n t places m proposals s
  unfolding on_make
  checked = record {
    size = grind (arith, nat_tests);
    given = grind (arith, nat_tests);
    wire_n = grind (arith, nat_tests);
    none_gone = grind (arith, nat_tests);
    is = grind (arith, nat_tests);
  }

module _ {K : Type 0} (kind : Kind K) (begins : (h : History K) → BoxBegins h kind) (n t places : ℕ) (m : WireState)
    (formed : IsWellFormed m) (proposals : List K) (s : State K)
    (c : Checked n t places m proposals s) (past_end : K) where
  abbrev h : History K
  h = first_history n t proposals past_end

  nobody : (r q : ℕ) → closes no_falls q r ≡ true
  unfolding closes
  nobody r q = refl

  few : n ≤ 32
  few = let z = c.size in grind (arith, nat_tests)

  allowed : IsAllowed h
  allowed = record {
    size = c.size;
    dated = none_any (λ q. false) n (λ q _. refl);
    few = let z = count_none n in let y = c.size in grind (arith, nat_tests);
  }

  standing : (q : ℕ) → q < n → (member m.up q ≡ true) × (is_some (m.lost q) ≡ false)
  standing q l = let g = any_none (is_gone m) n c.none_gone q l in (grind arith, grind arith)

  up_all : m.up ≡ set_of (λ q. ltb q n && closes no_falls q 0)
  up_all = set_kept n m.up (λ q. ltb q n && closes no_falls q 0) few (subst_n (λ k. m.up.mask < 2 ^ k) formed.up_within) (λ q. by q (cases_Bool (ltb q n)))
    where
      subst_n : (P : ℕ → Type 0) → P m.n → P n
      subst_n P x = subst P c.wire_n x

      by : (q : ℕ) → (ltb q n ≡ true) ⊎ (ltb q n ≡ false) → member m.up q ≡ (ltb q n && closes no_falls q 0)
      by q (inl l) = let s = standing q (grind (arith, nat_tests)) in let k = nobody 0 q in grind arith
      by q (inr l) = let b = bit_high m.n m.up.mask q formed.up_within (let e = c.wire_n in grind (arith, nat_tests)) in grind arith

  none_lost : (q : ℕ) → m.lost q ≡ None
  none_lost q = by (m.lost q) refl
    where
      by : (o : Option BoxSet) → m.lost q ≡ o → m.lost q ≡ None
      by None e = e
      by (Some x) e =
          let f = formed.falling q x e in
          let l = member_below m.n m.up q formed.up_within f.0 in
          let k = (standing q (omega (arith, l, c.wire_n))).1 in
          none_of (m.lost q) k

  quiet : (p : ℕ) → rule.rings h p 0 ≡ false
  unfolding rule.best_horizon rule.smallest
  quiet p = grind (arith, nat_tests)

  -- a new box holds the rule's values
  held_first : (p : ℕ) → p < n → first_held (record { 0 = p }) n t (get_or proposals p past_end) ≡ held_after h kind p 0
  held_first p l = made_of _ _ _ _ (begins h allowed p l)

  row_first : first_row n t proposals ≡ row_by kind h
  row_first = list_ext (first_row n t proposals) (row_by kind h) (λ p.
      get-by_number (λ p v. at_rest (first_held (record { 0 = p }) n t v)) proposals p ∙ by p (cases_Bool (ltb p n)) ∙ sym (at_place kind h c.size p))
    where
      by : (p : ℕ) → (ltb p n ≡ true) ⊎ (ltb p n ≡ false)
          → option_map (λ v. at_rest (first_held (record { 0 = p }) n t v)) (slice_get proposals p)
          ≡ cond (ltb p n) (Some (place_by kind h p)) None
      by p (inl l) =
          let k : p < n = grind (arith, nat_tests) in
          ap (option_map (λ v. at_rest (first_held (record { 0 = p }) n t v))) (slice_get-get_or proposals p past_end (let g = c.given in omega arith))
          ∙ ap (λ b. Some (at_rest b)) (held_first p k)
          ∙ ap Some (sym (resting_stands kind h c.size m.posted p (nobody 0 p) (quiet p)))
          ∙ ap (λ t. cond t (Some (place_by kind h p)) None) (sym l)
      by p (inr l) =
          ap (option_map (λ v. at_rest (first_held (record { 0 = p }) n t v))) (slice_get_past proposals p (let g = c.given in grind (arith, nat_tests)))
          ∙ ap (λ t. cond t (Some (place_by kind h p)) None) (sym l)

  pub made_so : Going kind m.posted s h
  unfolding wire_by posted_by
  made_so = record {
    allowed = allowed;
    quiet = λ p k l r. absurd (not-suc-le-zero l);
    due = λ q. refl;
    is = c.is ∙ (λ j. record {
      wire = record { n = c.wire_n j; up = up_all j; lost = λ q. none_lost q j; posted = m.posted };
      t = t;
      closed = 0;
      row = row_first j;
    });
  }
