-- Telling the falls of a round, entry by entry.
use Rattle.std.proofs.Common.{◌≡◌, ℕ, suc, ◌+◌, ◌-◌, ◌<◌, ◌≤◌, Bool, true, false, cond, ◌&&◌, eqb, ltb, ◌⊎◌, List, [], ◌∷◌, is_some, is_ok, Some, None, Option, sym, refl, ap, ◌∙◌, subst, inl, inr, arith}
use Rattle.std.proofs.lemmas.Bool.{cases_Bool, cases_lt, eqb-true, both_ways}
use Rattle.std.proofs.lemmas.Bool.Decides.{nat_tests}
use Rattle.base.specs.Counts.{count}
use Rattle.base.proofs.CountLemmas.{none_any, count_le, count_same}
use Rattle.rule.specs.declared.falls.Fall.{Fall}
use Rattle.rule.specs.Falls.{Falls, with_fall, fall_so_far, past_falls, closes, waste}
use Rattle.rule.specs.Histories.{History, as_of}
use Rattle.rule.specs.RuleValues as rule
use Rattle.rule.specs.RuleLaws.{Agreement, OnlyPastCounts, FallToComeCountsNot}
use Rattle.rule.proofs.WasteLemmas.{waste_up}
use Rattle.machine.specs.State.{State}
use Rattle.machine.specs.FallCall.{on_fall}
use Rattle.promise.specs.declared.request.Request.{Request}
use Rattle.promise.specs.declared.request.Request.TheVariants as request
use Rattle.promise.specs.CallLog.{undrawn_log, with_call, log_after}
use Rattle.promise.specs.CallSteps.{answer_to, state_after_call, state_after, answers_to, all_accepted}
use Rattle.promise.specs.PromiseLaws.{somebody_rings, may_fall, FollowsRule}
use Rattle.promise.proofs.CallAnswers.{done_ok}
use Rattle.promise.proofs.SamePast.{closes_same, rings_same}
use Rattle.scripts.specs.declared.entry.Entry.{Entry}
use Rattle.scripts.specs.Entries.{is_named, entries_fit}
use Rattle.scripts.specs.ScriptValues.{ScriptValues, KeepsLimits}
use Rattle.script_play.specs.ScriptCalls.{falls_before, falls_of, ringing_round_of}
use Rattle.script_play.proofs.EntryLemmas.{Fits, fit_of, fall_by, falls_first, falls_other, other_named, unnamed_stands, so_far_some, history_all, all_allowed, few_fall}
use Rattle.proposals.specs.Kinds.{Kind}

-- ---- the falls, once those of a round were told

-- once those of round r among some entries were told, after the falls g
pub with_told : ℕ → List Entry → Falls → Falls
with_told r [] g = g
with_told r (e ∷ es) g = with_told r es (cond (eqb e.round.0 r) (with_fall r e.number.0 e.lost g) g)

-- of one box
abbrev in_round : ℕ → Option Fall → Option Fall → Option Fall
in_round r None o = o
in_round r (Some f) o = cond (eqb f.round.0 r) (Some f) o

told_of : (n t r : ℕ) (es : List Entry) (g : Falls) (q : ℕ) → entries_fit n t es ≡ true
    → with_told r es g q ≡ in_round r (falls_of es q) (g q)
unfolding with_told falls_of
told_of n t r [] g q is = refl
told_of n t r (e ∷ es) g q is =
    let f = fit_of n t e es is in
    told_of n t r es (cond (eqb e.round.0 r) (with_fall r e.number.0 e.lost g) g) q f.others
    ∙ by (cases_Bool (eqb q e.number.0)) (cases_Bool (eqb e.round.0 r)) (λ own. unnamed_stands q es (ap (λ k. is_named k es) (eqb-true q e.number.0 own) ∙ f.unnamed))
  where
    by : (eqb q e.number.0 ≡ true) ⊎ (eqb q e.number.0 ≡ false) → (eqb e.round.0 r ≡ true) ⊎ (eqb e.round.0 r ≡ false)
        → (eqb q e.number.0 ≡ true → falls_of es q ≡ None)
        → in_round r (falls_of es q) (cond (eqb e.round.0 r) (with_fall r e.number.0 e.lost g) g q)
        ≡ in_round r (cond (eqb q e.number.0) (Some (fall_by e)) (falls_of es q)) (g q)
    by (inl own) (inl now) none =
        let n = none own in
        let same : e.round.0 ≡ r = eqb-true e.round.0 r now in
        grind arith
    by (inl own) (inr later) none = let n = none own in grind arith
    by (inr other) (inl now) none = grind arith
    by (inr other) (inr later) none = grind arith

pub told_past : (n t r : ℕ) (es : List Entry) → entries_fit n t es ≡ true
    → with_told (suc r) es (past_falls r (falls_of es)) ≡ past_falls (suc r) (falls_of es)
told_past n t r es is = λ i q. (told_of n t (suc r) es (past_falls r (falls_of es)) q is ∙ by (falls_of es q)) i
  where
    by : (o : Option Fall) → in_round (suc r) o (fall_so_far r o) ≡ fall_so_far (suc r) o
    by None = grind (arith, nat_tests)
    by (Some f) = grind (arith, nat_tests)

-- ---- what is so while they are told

-- entries that are to be told, where the falls so far are g, of the falls f: up to round r they are the same; the boxes of these entries have no fall
-- but those up to r; and each fall is one of f
pub record Ready (r : ℕ) (f g : Falls) (es : List Entry) : Type 0 where
  pub same : past_falls r g ≡ past_falls r f
  pub free : (q : ℕ) → is_named q es ≡ true → g q ≡ fall_so_far r (f q)
  pub own : (q : ℕ) → is_named q es ≡ true → f q ≡ falls_of es q
  pub within : (q : ℕ) → is_some (g q) ≡ true → is_some (f q) ≡ true

pub ready : (r : ℕ) (es : List Entry) → Ready r (falls_of es) (past_falls r (falls_of es)) es
ready r es = record {
  same = λ i q. again (falls_of es q) i;
  free = λ q _. refl;
  own = λ q _. refl;
  within = λ q. so_far_some r (falls_of es q);
}
  where
    again : (o : Option Fall) → fall_so_far r (fall_so_far r o) ≡ fall_so_far r o
    again o = grind arith

module _ (n t r : ℕ) (f g : Falls) (e : Entry) (es : List Entry) (fits : Fits n t e es) (k : Ready r f g (e ∷ es)) where
  named_first : is_named e.number.0 (e ∷ es) ≡ true
  named_first = grind (arith, nat_tests)

  named_later : (q : ℕ) → is_named q es ≡ true → is_named q (e ∷ es) ≡ true
  named_later q is = grind arith

  pub later : Ready r f g es
  later = record {
    same = k.same;
    free = λ q is. k.free q (named_later q is);
    own = λ q is. k.own q (named_later q is) ∙ falls_other e es q (other_named e es q fits.unnamed is);
    within = k.within;
  }

  module _ (now : e.round.0 ≡ suc r) where
    -- its box has not fallen
    pub unfallen : g e.number.0 ≡ None
    unfallen =
        k.free e.number.0 named_first ∙ ap (fall_so_far r) (k.own e.number.0 named_first ∙ falls_first e es)
        ∙ ap (λ b. cond b (Some (fall_by e)) None) (let l : ltb e.round.0 (suc r) ≡ false = grind (arith, nat_tests) in l)

    pub falls_then : is_some (f e.number.0) ≡ true
    falls_then = ap is_some (k.own e.number.0 named_first ∙ falls_first e es)

    pub told_now : FallToComeCountsNot → Ready r f (with_fall (suc r) e.number.0 e.lost g) es
    told_now coming = record {
      same = coming g r (suc r) e.number.0 e.lost unfallen (omega arith) ∙ k.same;
      free = λ q is. ap (λ b. cond b (Some (record { round = record { 0 = suc r }; lost = e.lost })) (g q)) (other_named e es q fits.unnamed is) ∙ k.free q (named_later q is);
      own = later.own;
      within = λ q. by q (cases_Bool (eqb q e.number.0));
    }
      where
        by : (q : ℕ) → (eqb q e.number.0 ≡ true) ⊎ (eqb q e.number.0 ≡ false) → is_some (with_fall (suc r) e.number.0 e.lost g q) ≡ true
            → is_some (f q) ≡ true
        by q (inl own) is = ap (λ x. is_some (f x)) (eqb-true q e.number.0 own) ∙ falls_then
        by q (inr other) is = k.within q (grind arith)

-- ---- the calls

module _ {K : Type 0} (kind : Kind K) (agree : (h : History K) → Agreement h kind) (only_past : (h : History K) → OnlyPastCounts h kind)
    (coming : FallToComeCountsNot) (s : ScriptValues) (p : KeepsLimits s) (proposals : ℕ → K) where
  abbrev falls : Falls
  falls = falls_of s.entries

  abbrev history : Falls → ℕ → History K
  history g r = record { n = s.n; t = s.t; proposals = proposals; falls = g; closed = r }

  -- before the round in which the boxes ring nobody does
  pub silent : (r : ℕ) (g : Falls) → past_falls r g ≡ past_falls r falls → r < ringing_round_of s → somebody_rings (history g r) ≡ false
  silent r g same early = none_any (λ q. closes g q r && rule.rings (history g r) q r) s.n (λ q l. by q l (cases_Bool (closes g q r)))
    where
      alike : as_of r (history g r) ≡ as_of r (history_all s p proposals r)
      alike = ap (λ x. record { n = s.n; t = s.t; proposals = proposals; falls = x; closed = r }) same

      by : (q : ℕ) → q < s.n → (closes g q r ≡ true) ⊎ (closes g q r ≡ false) → (closes g q r && rule.rings (history g r) q r) ≡ false
      by q l (inl c) =
          let rings = rings_same kind only_past (history g r) (history_all s p proposals r) r alike q r (omega arith) in
          let closed = closes_same kind only_past (history g r) (history_all s p proposals r) r alike q r (omega arith) in
          let at = (agree (history_all s p proposals r) (all_allowed s p proposals r)).0 q l (sym closed ∙ c) in
          let up = waste_up (history_all s p proposals r) (all_allowed s p proposals r) r (s.t + 1) (omega arith) in
          let no : eqb r (s.t + 1 - waste falls s.n r) ≡ false = grind (arith, nat_tests) in
          grind (arith, rings ∙ at ∙ no)
      by q l (inr o) = grind arith

  module _ (r : ℕ) (early : r < ringing_round_of s) (g : Falls) (e : Entry) (es : List Entry) (fits : Fits s.n s.t e es) (k : Ready r falls g (e ∷ es)) (now : e.round.0 ≡ suc r) where
    -- fewer have fallen than may, since its box is to fall
    spare : count (λ q. is_some (g q)) s.n < s.t
    spare =
        let le = count_le (λ q. is_some (g q)) (λ q. is_some (falls q)) s.n (λ q _. k.within q) in
        let few = few_fall s p proposals in
        by (cases_lt (count (λ q. is_some (g q)) s.n) (count (λ q. is_some (falls q)) s.n))
      where
        by : (count (λ q. is_some (g q)) s.n < count (λ q. is_some (falls q)) s.n)
            ⊎ (count (λ q. is_some (falls q)) s.n ≤ count (λ q. is_some (g q)) s.n)
            → count (λ q. is_some (g q)) s.n < s.t
        by (inl l) = omega (arith, few_fall s p proposals)
        by (inr m) = absurd (
            both_ways (is_some (g e.number.0)) (ap is_some (unfallen s.n s.t r falls g e es fits k now))
            (count_same (λ q. is_some (g q)) (λ q. is_some (falls q)) s.n (λ q _. k.within q) (omega (arith, count_le (λ q. is_some (g q)) (λ q. is_some (falls q)) s.n (λ q _. k.within q))) e.number.0 fits.first.placed
            ∙ falls_then s.n s.t r falls g e es fits k now))

    may : may_fall (history g r) e.number.0 e.lost ≡ true
    may =
        let quiet = silent r g k.same early in
        let place = fits.first.placed in
        let good = fits.first.good in
        let stands = ap is_some (unfallen s.n s.t r falls g e es fits k now) in
        let few = spare in
        grind (arith, nat_tests)

  module _ (unopened : ℕ → Option (List ℕ)) where
    -- the ringing with its row is that of a history, now and after any more calls
    abbrev pub Reached : State K → History K → Type 0
    Reached x h =
        (more : List Request)
        → FollowsRule kind unopened (state_after kind more x) (log_after more (answers_to kind more x) (undrawn_log h))

    pub now : (x : State K) (h : History K) → Reached x h → FollowsRule kind unopened x (undrawn_log h)
    unfolding state_after log_after
    now x h reached = reached []

    pub next : (c : Request) (x : State K) (h then : History K) → with_call c (undrawn_log h) ≡ undrawn_log then
        → is_ok (answer_to kind c x) ≡ true → Reached x h → Reached (state_after_call kind c x) then
    unfolding state_after answers_to log_after
    next c x h then is ok reached more =
        subst (λ y. FollowsRule kind unopened (state_after kind more (state_after_call kind c x)) (log_after more (answers_to kind more (state_after_call kind c x)) y)) is
        (subst (λ b. FollowsRule kind unopened (state_after kind more (state_after_call kind c x)) (log_after more (answers_to kind more (state_after_call kind c x)) (cond b (with_call c (undrawn_log h)) (undrawn_log h)))) ok
        (reached (c ∷ more)))

    -- after the falls of a round were told
    abbrev Walked : ℕ → List Entry → State K → Falls → Type 0
    Walked r es x g =
        (all_accepted kind (falls_before (suc r) es) x ≡ true)
        × Reached (state_after kind (falls_before (suc r) es) x) (history (with_told (suc r) es g) r)

    pub walk : (r : ℕ) → r < ringing_round_of s → (es : List Entry) (x : State K) (g : Falls) → entries_fit s.n s.t es ≡ true
        → Ready r falls g es → Reached x (history g r) → Walked r es x g
    unfolding all_accepted falls_before state_after with_told
    walk r early [] x g is k reached = (refl, reached)
    walk r early (e ∷ es) x g is k reached =
        let f = fit_of s.n s.t e es is in
        by f (walk r early es x g f.others (later s.n s.t r falls g e es f k) reached)
        (λ same there. walk r early es (state_after_call kind (request.Fall e.number e.lost) x) (with_fall (suc r) e.number.0 e.lost g) f.others (told_now s.n s.t r falls g e es f k same coming) there)
        (eqb e.round.0 (suc r)) refl
      where
        by : Fits s.n s.t e es → Walked r es x g
            → (e.round.0 ≡ suc r
            → Reached (state_after_call kind (request.Fall e.number e.lost) x) (history (with_fall (suc r) e.number.0 e.lost g) r)
            → Walked r es (state_after_call kind (request.Fall e.number e.lost) x) (with_fall (suc r) e.number.0 e.lost g))
            → (b : Bool) → eqb e.round.0 (suc r) ≡ b
            → (all_accepted kind (cond b (request.Fall e.number e.lost ∷ falls_before (suc r) es) (falls_before (suc r) es)) x ≡ true)
            × Reached (state_after kind (cond b (request.Fall e.number e.lost ∷ falls_before (suc r) es) (falls_before (suc r) es)) x)
            (history (with_told (suc r) es (cond b (with_fall (suc r) e.number.0 e.lost g) g)) r)
        by f skip tell true is =
            let same = eqb-true e.round.0 (suc r) is in
            let ok : is_ok (answer_to kind (request.Fall e.number e.lost) x) ≡ true = done_ok K (on_fall e.number e.lost x) ∙ (now x (history g r) reached).falls e.number e.lost ∙ may r early g e es f k same in
            let rest = tell same (next (request.Fall e.number e.lost) x (history g r) _ refl ok reached) in
            (grind (arith, ok, rest.0), rest.1)
        by f skip tell false is = skip
