-- What a call answers.
use Rattle.std.proofs.Common.{◌≡◌, Ok, Err, Result, is_ok, refl}
use Rattle.base.specs.declared.refusal.Refusal.{Refusal}
use Rattle.base.specs.Results.{answer}
use Rattle.promise.specs.CallSteps.{done_answer}

-- one that only says done is accepted if what it stands for is
pub done_ok : (K : Type 0) {X : Type 0} (r : Result X Refusal) → is_ok (done_answer {K = K} r) ≡ is_ok r
done_ok K (Ok x) = refl
done_ok K (Err e) = refl

-- and says so of the answer alone
pub done_of_answer : (K : Type 0) {X : Type 0} (r : Result X Refusal) → done_answer {K = K} (answer r) ≡ done_answer r
done_of_answer K (Ok x) = refl
done_of_answer K (Err e) = refl
