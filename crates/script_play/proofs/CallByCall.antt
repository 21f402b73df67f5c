-- Playing a script call by call.
use Rattle.std.proofs.Common.{◌≡◌, ℕ, zero, suc, ◌<◌, ◌≤◌, true, false, cond, ◌&&◌, List, [], ◌∷◌, ◌++◌, Some, None, Option, Ok, is_ok, get_or, sym, refl, ap, ◌∙◌, subst, arith}
use Rattle.std.proofs.Math.Decide.{le_ind}
use Rattle.std.proofs.lemmas.Bool.Decides.{nat_tests}
use Rattle.base.proofs.CountLemmas.{any_from}
use Rattle.frames.specs.Frames.{longest_frame}
use Rattle.wire.specs.WireState.{WireState, IsWellFormed}
use Rattle.rule.specs.declared.falls.Fall.{Fall}
use Rattle.rule.specs.Falls.{Falls, fell_before, fall_so_far, past_falls, closes}
use Rattle.rule.specs.Histories.{History, IsAllowed}
use Rattle.rule.specs.RuleValues as rule
use Rattle.rule.specs.RuleLaws.{Agreement, SomeRemains, OnlyPastCounts, FallToComeCountsNot}
use Rattle.machine.specs.State.{State}
use Rattle.machine.specs.MakeCall.{on_make}
use Rattle.machine.specs.RowCheck.{bad_row, is_over}
use Rattle.machine.specs.RoundCall.{on_round}
use Rattle.promise.specs.declared.request.Request.{Request}
use Rattle.promise.specs.declared.request.Request.TheVariants as request
use Rattle.promise.specs.CallLog.{first_history, undrawn_log, log_after}
use Rattle.promise.specs.CallSteps.{answers_to, answer_to, state_after_call, state_after, all_accepted}
use Rattle.promise.specs.StateByHistory.{state_by}
use Rattle.promise.specs.PromiseLaws.{somebody_rings, FollowsRule}
use Rattle.promise.proofs.BlowsBesideHistory.{undrawn_same}
use Rattle.promise.proofs.ListAfterList.{after-append}
use Rattle.promise.proofs.CallAnswers.{done_ok}
use Rattle.scripts.specs.declared.entry.Entry.{Entry}
use Rattle.scripts.specs.ScriptValues.{ScriptValues, KeepsLimits}
use Rattle.script_play.specs.ScriptCalls.{falls_before, calls_in, calls_to, falls_of, ringing_round_of}
use Rattle.script_play.specs.PlayLaws.{EndsRinging, CallsAreAccepted, ScriptPlays}
use Rattle.script_play.proofs.EntryLemmas.{dated}
use Rattle.script_play.proofs.RingingRoundOfScript.{ends, stands}
use Rattle.script_play.proofs.EntryByEntry.{told_past, with_told, ready, silent, Reached, now, next, walk}
use Rattle.proposals.specs.Kinds.{Kind}

-- ---- one list of calls after another

module _ {K : Type 0} (kind : Kind K) where
  pub accepted-append : (xs ys : List Request) (s : State K)
      → all_accepted kind (xs ++ ys) s ≡ (all_accepted kind xs s && all_accepted kind ys (state_after kind xs s))
  unfolding state_after all_accepted
  accepted-append [] ys s = refl
  accepted-append (c ∷ xs) ys s = let ih = accepted-append xs ys (state_after_call kind c s) in grind arith

-- what is accepted up to some round is so up to those before
module _ {K : Type 0} (kind : Kind K) (es : List Entry) (s : State K) where
  abbrev accepted_to : ℕ → Type 0
  accepted_to r = all_accepted kind (calls_to es r) s ≡ true

  abbrev pub after_rounds : ℕ → State K
  after_rounds r = state_after kind (calls_to es r) s

  pub accepted_round : (r : ℕ) → accepted_to (suc r) → accepted_to r × (all_accepted kind (calls_in (suc r) es) (after_rounds r) ≡ true)
  unfolding calls_to
  accepted_round r is = let a = accepted-append kind (calls_to es r) (calls_in (suc r) es) s in (grind arith, grind arith)

  pub accepted_back : (r b : ℕ) → r ≤ b → accepted_to b → accepted_to r
  accepted_back r b l = le_ind (λ (m : ℕ). accepted_to m → accepted_to r) (λ is. is) (λ m k back is. back (accepted_round m is).0) b l

  -- and a round more leads on
  pub round_on : (r : ℕ) → after_rounds (suc r) ≡ state_after kind (calls_in (suc r) es) (after_rounds r)
  unfolding calls_to
  round_on r = after-append kind (calls_to es r) (calls_in (suc r) es) s

-- the calls of a round are its falls, and then the round
module _ {K : Type 0} (kind : Kind K) (r : ℕ) (es : List Entry) (s : State K) where
  abbrev pub falls_told : State K
  falls_told = state_after kind (falls_before r es) s

  pub round_last : state_after kind (calls_in r es) s ≡ state_after_call kind (request.Round longest_frame) falls_told
  unfolding state_after
  round_last = after-append kind (falls_before r es) (request.Round longest_frame ∷ []) s

  pub round_split : all_accepted kind (calls_in r es) s
      ≡ (all_accepted kind (falls_before r es) s && (is_ok (answer_to kind (request.Round longest_frame) falls_told) && true))
  unfolding state_after all_accepted
  round_split = accepted-append kind (falls_before r es) (request.Round longest_frame ∷ []) s

-- ---- what is promised of lists of calls, as far as it is needed here

abbrev pub CallsFollow : {K : Type 0} → Kind K → Type 0
CallsFollow {K} kind =
    (n t places : ℕ) (m : WireState) (proposals : List K) (s : State K) → IsWellFormed m → on_make n t m places proposals ≡ Ok s
    → (past_end : K) (calls : List Request)
    → let first = undrawn_log (first_history n t proposals past_end) in
    FollowsRule kind m.posted (state_after kind calls s) (log_after calls (answers_to kind calls s) first)

-- ---- rounds, by whether a box of the row rings

module _ {K : Type 0} (kind : Kind K) (s : State K) where
  pub still_where_accepted : is_ok (on_round kind longest_frame s) ≡ true → is_over s ≡ false
  unfolding on_round
  still_where_accepted ok = grind (arith, nat_tests)

  pub over_where_refused : bad_row s ≡ false → is_ok (on_round kind longest_frame s) ≡ false → is_over s ≡ true
  unfolding on_round
  over_where_refused good refused = grind (arith, nat_tests)

module _ {K : Type 0} (kind : Kind K) (agree : (h : History K) → Agreement h kind) (remains : (h : History K) → IsAllowed h → SomeRemains h)
    (only_past : (h : History K) → OnlyPastCounts h kind) (coming : FallToComeCountsNot) (follow : CallsFollow kind) (s : ScriptValues) (p : KeepsLimits s) (proposals : List K) (past_end : K)
    (places : ℕ) (m : WireState) (first : State K) (formed : IsWellFormed m) (made : on_make s.n s.t m places proposals ≡ Ok first) where
  abbrev proposed : ℕ → K
  proposed q = get_or proposals q past_end

  abbrev falls : Falls
  falls = falls_of s.entries

  -- after the falls f and r rounds
  abbrev history : Falls → ℕ → History K
  history f r = record { n = s.n; t = s.t; proposals = proposed; falls = f; closed = r }

  abbrev At : State K → Falls → ℕ → Type 0
  At x f r = Reached kind agree only_past coming s p proposed m.posted x (history f r)

  abbrev at : ℕ → State K
  at r = state_after kind (calls_to s.entries r) first

  quiet_now : (r : ℕ) (f : Falls) → past_falls r f ≡ past_falls r falls → r < ringing_round_of s → somebody_rings (history f r) ≡ false
  quiet_now = silent kind agree only_past coming s p proposed

  follows_now : (x : State K) (f : Falls) (r : ℕ) → At x f r → FollowsRule kind m.posted x (undrawn_log (history f r))
  follows_now x f r = now kind agree only_past coming s p proposed m.posted x (history f r)

  -- ---- a round more

  module _ (r : ℕ) (early : r < ringing_round_of s) (there : At (at r) (past_falls r falls) r) where
    abbrev told : State K
    told = state_after kind (falls_before (suc r) s.entries) (at r)

    abbrev after_falls : Falls
    after_falls = with_told (suc r) s.entries (past_falls r falls)

    walked : (all_accepted kind (falls_before (suc r) s.entries) (at r) ≡ true) × At told after_falls r
    walked = walk kind agree only_past coming s p proposed m.posted r early s.entries (at r) (past_falls r falls) p.fitting (ready r s.entries) there

    told_all : At told (past_falls (suc r) falls) r
    told_all = subst (λ f. At told f r) (told_past s.n s.t r s.entries p.fitting) walked.1

    -- the falls of the round to come leave those before it as they are
    past_same : past_falls r (past_falls (suc r) falls) ≡ past_falls r falls
    past_same = λ i q. by (falls q) i
      where
        by : (o : Option Fall) → fall_so_far r (fall_so_far (suc r) o) ≡ fall_so_far r o
        by None = grind arith
        by (Some f) = grind (arith, nat_tests)

    pub round_ok : is_ok (on_round kind longest_frame told) ≡ true
    round_ok =
        let rounds = (follows_now told (past_falls (suc r) falls) r told_all).rounds longest_frame in
        let quiet = quiet_now r (past_falls (suc r) falls) past_same early in
        grind (arith, nat_tests)

    round_taken : is_ok (answer_to kind (request.Round longest_frame) told) ≡ true
    round_taken = done_ok K (on_round kind longest_frame told) ∙ round_ok

    pub there_next : At (at (suc r)) (past_falls (suc r) falls) (suc r)
    there_next =
        subst (λ x. At x (past_falls (suc r) falls) (suc r)) (sym (round_on kind s.entries first r ∙ round_last kind (suc r) s.entries (at r)))
        (next kind agree only_past coming s p proposed m.posted (request.Round longest_frame) told (history (past_falls (suc r) falls) r) _ refl round_taken told_all)

    pub accepted_next : all_accepted kind (calls_to s.entries r) first ≡ true → all_accepted kind (calls_to s.entries (suc r)) first ≡ true
    unfolding calls_to
    accepted_next fall_so_far =
        let a = accepted-append kind (calls_to s.entries r) (calls_in (suc r) s.entries) first in
        let b = round_split kind (suc r) s.entries (at r) in
        let f = walked.0 in
        let k = round_taken in
        a ∙ ap (λ x. x && all_accepted kind (calls_in (suc r) s.entries) (at r)) fall_so_far ∙ b
        ∙ ap (λ x. x && (is_ok (answer_to kind (request.Round longest_frame) told) && true)) f ∙ ap (λ x. x && true) k

  -- ---- all rounds

  begun : At (at 0) (past_falls 0 falls) 0
  unfolding calls_to state_after
  begun = subst (λ f. At first f 0) (λ i q. by (falls q) (dated s p proposed q) i) (λ more. follow s.n s.t places m proposals first formed made past_end more)
    where
      by : (o : Option Fall) → fell_before o 1 ≡ false → None ≡ fall_so_far 0 o
      by o e = ap (λ b. cond b o None) (sym e)

  none_called : all_accepted kind (calls_to s.entries 0) first ≡ true
  unfolding calls_to all_accepted
  none_called = refl

  reached : (r : ℕ) → r ≤ ringing_round_of s → (all_accepted kind (calls_to s.entries r) first ≡ true) × At (at r) (past_falls r falls) r
  reached zero l = (none_called, begun)
  reached (suc r) l =
      let k = reached r (omega arith) in
      (accepted_next r (omega arith) k.1 k.0, there_next r (omega arith) k.1)

  abbrev h : History K
  h = history (past_falls (ringing_round_of s) falls) (ringing_round_of s)

  pub plays : EndsRinging kind h → CallsAreAccepted kind s first × (at (ringing_round_of s) ≡ state_by kind h m.posted)
  plays e =
      let end = reached (ringing_round_of s) (omega arith) in
      let f = follows_now (at (ringing_round_of s)) (past_falls (ringing_round_of s) falls) (ringing_round_of s) end.1 in (
        record {
          in_time = e.in_time;
          accepted = end.0;
          still = λ r l.
              let k = reached r (omega arith) in
              let g = (follows_now (at r) (past_falls r falls) r k.1).rounds longest_frame in
              let quiet = quiet_now r (past_falls r falls) (ready r s.entries).same l in
              still_where_accepted kind (at r) (grind (arith, nat_tests));
          rings =
              let g = f.rounds longest_frame in
              let one = e.one in
              let some = any_from (λ q. closes h.falls q h.closed && rule.rings h q h.closed) s.n one.0 one.1.0 (let a = one.1.1 in let b = one.1.2 in grind arith) in
              over_where_refused kind (at (ringing_round_of s)) f.good (grind (arith, nat_tests));
          good = f.good;
        },
        f.is ∙ undrawn_same kind h f.allowed.size m.posted,
      )

pub script_plays : {K : Type 0} (kind : Kind K) → ((h : History K) → Agreement h kind) → ((h : History K) → IsAllowed h → SomeRemains h)
    → ((h : History K) → OnlyPastCounts h kind) → FallToComeCountsNot → CallsFollow kind → ScriptPlays kind
script_plays kind agree remains only_past coming follow s p proposals past_end =
    let proposed = λ (q : ℕ). get_or proposals q past_end in
    let e = ends kind agree remains only_past s p proposed in (
      e,
      stands kind agree remains only_past s p proposed,
      λ places m first formed made. plays kind agree remains only_past coming follow s p proposals past_end places m first formed made e,
    )
