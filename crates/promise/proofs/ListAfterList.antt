-- One list of calls after another.
use Rattle.std.proofs.Common.{◌≡◌, cond, List, [], ◌∷◌, ◌++◌, is_ok, refl}
use Rattle.proposals.specs.Kinds.{Kind}
use Rattle.machine.specs.State.{State}
use Rattle.promise.specs.declared.request.Request.{Request}
use Rattle.promise.specs.CallLog.{Answer, Log, with_call, log_after}
use Rattle.promise.specs.CallSteps.{answer_to, state_after_call, state_after, answers_to}

module _ {K : Type 0} (kind : Kind K) where
  pub after-append : (xs ys : List Request) (s : State K) → state_after kind (xs ++ ys) s ≡ state_after kind ys (state_after kind xs s)
  unfolding state_after
  after-append [] ys s = refl
  after-append (c ∷ xs) ys s = after-append xs ys (state_after_call kind c s)

  pub log-append : (xs ys : List Request) (s : State K) (h : Log K)
      → log_after (xs ++ ys) (answers_to kind (xs ++ ys) s) h
      ≡ log_after ys (answers_to kind ys (state_after kind xs s)) (log_after xs (answers_to kind xs s) h)
  unfolding state_after answers_to log_after
  log-append [] ys s h = refl
  log-append (c ∷ xs) ys s h = log-append xs ys (state_after_call kind c s) (cond (is_ok (answer_to kind c s)) (with_call c h) h)

  -- answers behind those of the calls do not count
  pub log-surplus : (xs : List Request) (s : State K) (more : List (Answer K)) (h : Log K)
      → log_after xs (answers_to kind xs s ++ more) h ≡ log_after xs (answers_to kind xs s) h
  unfolding answers_to log_after
  log-surplus [] s more h = refl
  log-surplus (c ∷ xs) s more h = log-surplus xs (state_after_call kind c s) more (cond (is_ok (answer_to kind c s)) (with_call c h) h)
