-- The falls of a round, as the entries are gone through.
use Rattle.std.proofs.Common.{◌≡◌, ℕ, ◌+◌, ◌<◌, ◌≤◌, true, false, cond, eqb, ◌&&◌, List, [], ◌∷◌, length, get_or, drop, Ok, Err, Result, is_ok, sym, refl, ap, ◌∙◌, arith}
use Rattle.std.proofs.lemmas.List.{drop_more, drop_all}
use Rattle.std.specs.Result.{IsOk}
use Rattle.base.specs.declared.refusal.Refusal.{Refusal}
use Rattle.machine.specs.State.{State}
use Rattle.machine.specs.FallCall.{on_fall}
use Rattle.base.specs.Results.{answer}
use Rattle.promise.specs.declared.request.Request.{Request}
use Rattle.promise.specs.declared.request.Request.TheVariants as request
use Rattle.promise.specs.CallSteps.{answer_to, state_after_call, state_after, all_accepted}
use Rattle.promise.proofs.CallAnswers.{done_ok}
use Rattle.scripts.specs.declared.entry.Entry.{Entry}
use Rattle.script_play.specs.ScriptCalls.{falls_before}
use Rattle.proposals.specs.Kinds.{Kind}

module _ (r : ℕ) (es : List Entry) (i : ℕ) where
  -- at the end nothing is told
  pub none_left : length es ≤ i → falls_before r (drop i es) ≡ []
  unfolding falls_before
  none_left end = ap (falls_before r) (drop_all i es end)

  module _ (x : Entry) (inside : i < length es) where
    abbrev e : Entry
    e = get_or es i x

    abbrev more : List Request
    more = falls_before r (drop (i + 1) es)

    left : falls_before r (drop i es) ≡ cond (eqb e.round.0 r) (request.Fall e.number e.lost ∷ more) more
    unfolding falls_before
    left = ap (falls_before r) (drop_more es i x inside)

    -- one of another round is not told
    pub skipped : eqb e.round.0 r ≡ false → falls_before r (drop i es) ≡ more
    skipped other = left ∙ ap (λ b. cond b (request.Fall e.number e.lost ∷ more) more) other

    module _ (now : eqb e.round.0 r ≡ true) where
      told : falls_before r (drop i es) ≡ request.Fall e.number e.lost ∷ more
      told = left ∙ ap (λ b. cond b (request.Fall e.number e.lost ∷ more) more) now

      module _ {K : Type 0} (kind : Kind K) (s : State K) where
        pub told_ends : state_after kind (falls_before r (drop i es)) s
            ≡ state_after kind more (state_after_call kind (request.Fall e.number e.lost) s)
        unfolding state_after
        told_ends = ap (λ c. state_after kind c s) told

        pub told_accepted : all_accepted kind (falls_before r (drop i es)) s ≡ true
            → (is_ok (on_fall e.number e.lost s) ≡ true)
            × (all_accepted kind more (state_after_call kind (request.Fall e.number e.lost) s) ≡ true)
        unfolding all_accepted
        told_accepted all =
            let k : (is_ok (answer_to kind (request.Fall e.number e.lost) s) && all_accepted kind more (state_after_call kind (request.Fall e.number e.lost) s)) ≡ true = sym (ap (λ c. all_accepted kind c s) told) ∙ all in
            (sym (done_ok K (on_fall e.number e.lost s)) ∙ grind arith, grind arith)

-- a call that is accepted answers so
pub answers : {X : Type 0} (r : Result X Refusal) → is_ok r ≡ true → IsOk (answer r)
answers (Ok x) ok = refl
answers (Err why) ok = absurd (grind arith)
