-- The falls that entries tell.
use Rattle.std.proofs.Common.{◌≡◌, ℕ, zero, suc, ◌<◌, ◌≤◌, Bool, true, false, cond, ◌||◌, eqb, ◌⊎◌, List, [], ◌∷◌, length, is_some, Some, None, Option, sym, refl, ap, ◌∙◌, subst, inl, inr, arith}
use Rattle.std.specs.List.{slice_get}
use Rattle.std.proofs.lemmas.Bool.{cases_Bool, eqb-true, both_ways}
use Rattle.std.proofs.lemmas.Bool.Decides.{nat_tests}
use Rattle.sets.specs.Companies.{is_bad_lost}
use Rattle.base.specs.Counts.{count}
use Rattle.base.proofs.CountLemmas.{count_ext, count_le, count_more, count_none, none_any}
use Rattle.rule.specs.declared.falls.Fall.{Fall}
use Rattle.rule.specs.Falls.{fell_before, fall_so_far, past_falls}
use Rattle.rule.specs.Histories.{History, IsAllowed}
use Rattle.scripts.specs.declared.entry.Entry.{Entry}
use Rattle.scripts.specs.Entries.{is_named, entries_fit}
use Rattle.scripts.specs.ScriptValues.{ScriptValues, KeepsLimits}
use Rattle.script_play.specs.ScriptCalls.{falls_of}
use Rattle.script_play.specs.PlayLaws.{EntriesCount}

-- ---- entries that a script may have

pub record Fit (n t : ℕ) (e : Entry) : Type 0 where
  pub begun : 1 ≤ e.round.0
  pub placed : e.number.0 < n
  pub good : is_bad_lost n e.number.0 e.lost ≡ false

pub record Fits (n t : ℕ) (e : Entry) (es : List Entry) : Type 0 where
  pub first : Fit n t e
  pub unnamed : is_named e.number.0 es ≡ false
  pub others : entries_fit n t es ≡ true

pub fit_of : (n t : ℕ) (e : Entry) (es : List Entry) → entries_fit n t (e ∷ es) ≡ true → Fits n t e es
unfolding entries_fit
fit_of n t e es is = record {
  first = record { begun = grind (arith, nat_tests); placed = grind (arith, nat_tests); good = grind arith };
  unnamed = grind arith;
  others = grind arith;
}

-- ---- the fall of a box

abbrev pub fall_by : Entry → Fall
fall_by e = record { round = record { 0 = e.round.0 }; lost = e.lost }

pub falls_cons : (e : Entry) (es : List Entry) (q : ℕ) → falls_of (e ∷ es) q ≡ cond (eqb q e.number.0) (Some (fall_by e)) (falls_of es q)
unfolding falls_of
falls_cons e es q = refl

-- that of the box of the first entry
pub falls_first : (e : Entry) (es : List Entry) → falls_of (e ∷ es) e.number.0 ≡ Some (fall_by e)
falls_first e es = falls_cons e es e.number.0 ∙ ap (λ b. cond b (Some (fall_by e)) (falls_of es e.number.0)) (let k : eqb e.number.0 e.number.0 ≡ true = grind (arith, nat_tests) in k)

-- and of another box
pub falls_other : (e : Entry) (es : List Entry) (q : ℕ) → eqb q e.number.0 ≡ false → falls_of (e ∷ es) q ≡ falls_of es q
falls_other e es q other = falls_cons e es q ∙ ap (λ b. cond b (Some (fall_by e)) (falls_of es q)) other

-- a box that no entry names does not fall
pub unnamed_stands : (q : ℕ) (es : List Entry) → is_named q es ≡ false → falls_of es q ≡ None
unfolding falls_of
unnamed_stands q [] is = refl
unnamed_stands q (e ∷ es) is =
    let other : eqb q e.number.0 ≡ false = grind (arith, nat_tests) in
    let more : is_named q es ≡ false = grind (arith, nat_tests) in
    ap (λ b. cond b (Some (fall_by e)) (falls_of es q)) other ∙ unnamed_stands q es more

-- ---- they keep the limits

module _ (n t : ℕ) where
  pub falls_dated : (es : List Entry) → entries_fit n t es ≡ true → (q : ℕ) → fell_before (falls_of es q) 1 ≡ false
  unfolding falls_of
  falls_dated [] is q = refl
  falls_dated (e ∷ es) is q = let f = fit_of n t e es is in by f.first.begun (falls_dated es f.others q) (eqb q e.number.0)
    where
      by : 1 ≤ e.round.0 → fell_before (falls_of es q) 1 ≡ false → (b : Bool)
          → fell_before (cond b (Some (fall_by e)) (falls_of es q)) 1 ≡ false
      by l ih true = grind (arith, nat_tests)
      by l ih false = ih

  pub falls_few : (es : List Entry) → entries_fit n t es ≡ true → count (λ q. is_some (falls_of es q)) n ≤ length es
  unfolding falls_of
  falls_few [] is = omega (arith, count_none n)
  falls_few (e ∷ es) is =
      let f = fit_of n t e es is in
      let c = count_ext (λ q. is_some (falls_of (e ∷ es) q)) (λ q. is_some (falls_of es q) || eqb q e.number.0) n (λ q l. more (eqb q e.number.0) (falls_of es q)) in
      let m = count_more (λ q. is_some (falls_of es q)) n e.number.0 f.first.placed (ap is_some (unnamed_stands e.number.0 es f.unnamed)) in
      let ih = falls_few es f.others in
      omega arith
    where
      more : (b : Bool) (o : Option Fall) → is_some (cond b (Some (fall_by e)) o) ≡ (is_some o || b)
      more true None = refl
      more true (Some x) = refl
      more false None = refl
      more false (Some x) = refl

-- the falls so far are among the falls
pub so_far_some : (s : ℕ) (o : Option Fall) → is_some (fall_so_far s o) ≡ true → is_some o ≡ true
so_far_some s o is = by (fell_before o (suc s)) is
  where
    by : (b : Bool) → is_some (cond b o None) ≡ true → is_some o ≡ true
    by true e = e
    by false e = absurd (grind arith)

-- and of a round up to then
pub so_far_before : (s : ℕ) (o : Option Fall) (f : Fall) → fall_so_far s o ≡ Some f → f.round.0 ≤ s
so_far_before s o f e = by (fell_before o (suc s)) refl e
  where
    by : (b : Bool) → fell_before o (suc s) ≡ b → cond b o None ≡ Some f → f.round.0 ≤ s
    by true is at = let k : fell_before (Some f) (suc s) ≡ true = ap (λ x. fell_before x (suc s)) (sym at) ∙ is in grind (arith, nat_tests)
    by false is at = absurd (grind arith)

so_far_dated : (s : ℕ) (o : Option Fall) → fell_before o 1 ≡ false → fell_before (fall_so_far s o) 1 ≡ false
so_far_dated s o is = by (fell_before o (suc s))
  where
    by : (b : Bool) → fell_before (cond b o None) 1 ≡ false
    by true = is
    by false = refl

module _ {K : Type 0} (s : ScriptValues) (p : KeepsLimits s) (proposals : ℕ → K) where
  -- the history of the falls up to round b, after round r
  abbrev pub history_to : ℕ → ℕ → History K
  history_to b r = record { n = s.n; t = s.t; proposals = proposals; falls = past_falls b (falls_of s.entries); closed = r }

  -- and of all falls
  abbrev pub history_all : ℕ → History K
  history_all r = record { n = s.n; t = s.t; proposals = proposals; falls = falls_of s.entries; closed = r }

  pub few_fall : count (λ q. is_some (falls_of s.entries q)) s.n ≤ s.t
  few_fall = omega (arith, falls_few s.n s.t s.entries p.fitting, p.few)

  pub dated : (q : ℕ) → fell_before (falls_of s.entries q) 1 ≡ false
  dated = falls_dated s.n s.t s.entries p.fitting

  pub all_allowed : (r : ℕ) → IsAllowed (history_all r)
  all_allowed r = record { size = p.size; dated = none_any (λ q. fell_before (falls_of s.entries q) 1) s.n (λ q l. dated q); few = few_fall }

  pub to_allowed : (b r : ℕ) → IsAllowed (history_to b r)
  to_allowed b r = record {
    size = p.size;
    dated = none_any (λ q. fell_before (fall_so_far b (falls_of s.entries q)) 1) s.n (λ q l. so_far_dated b (falls_of s.entries q) (dated q));
    few = omega (arith, count_le (λ q. is_some (fall_so_far b (falls_of s.entries q))) (λ q. is_some (falls_of s.entries q)) s.n (λ q l. so_far_some b (falls_of s.entries q)), few_fall);
  }

-- ---- each entry counts

-- a box of the later entries is not that of the first
pub other_named : (e : Entry) (es : List Entry) (q : ℕ) → is_named e.number.0 es ≡ false → is_named q es ≡ true → eqb q e.number.0 ≡ false
other_named e es q none some = by (cases_Bool (eqb q e.number.0))
  where
    by : (eqb q e.number.0 ≡ true) ⊎ (eqb q e.number.0 ≡ false) → eqb q e.number.0 ≡ false
    by (inl own) = absurd (both_ways (is_named q es) (ap (λ k. is_named k es) (eqb-true q e.number.0 own) ∙ none) some)
    by (inr other) = other

named_at : (es : List Entry) (i : ℕ) (x : Entry) → slice_get es i ≡ Some x → is_named x.number.0 es ≡ true
named_at [] i x at = absurd (grind arith)
named_at (e ∷ es) zero x at = let same : e ≡ x = cc in let k : eqb x.number.0 x.number.0 ≡ true = grind (arith, nat_tests) in grind (arith, nat_tests)
named_at (e ∷ es) (suc i) x at = let more = named_at es i x at in grind arith

fall_at : (n t : ℕ) (es : List Entry) → entries_fit n t es ≡ true → (i : ℕ) (x : Entry) → slice_get es i ≡ Some x
    → falls_of es x.number.0 ≡ Some (fall_by x)
fall_at n t [] is i x at = absurd (grind arith)
fall_at n t (e ∷ es) is zero x at = let same : e ≡ x = cc in subst (λ y. falls_of (e ∷ es) y.number.0 ≡ Some (fall_by y)) same (falls_first e es)
fall_at n t (e ∷ es) is (suc i) x at =
    let f = fit_of n t e es is in
    falls_other e es x.number.0 (other_named e es x.number.0 f.unnamed (named_at es i x at)) ∙ fall_at n t es f.others i x at

pub entries_count : EntriesCount
entries_count s p = (λ i e at. fall_at s.n s.t s.entries p.fitting i e at, λ q none. unnamed_stands q s.entries none)
