-- Several things one after another.
use Rattle.std.proofs.Common.{◌≡◌, ℕ, zero, suc, ◌+◌, ◌-◌, ◌<◌, List, [], ◌∷◌, ◌++◌, length, Ok, Err, Result, refl, arith, length-append}
use Rattle.base.specs.declared.refusal.Refusal.{Refusal}
use Rattle.frames.proofs.FrameRoundTrip.{next_inv}
use Rattle.scripts.specs.ScriptReading.{read_several}

module _ {X : Type 0} (one : List X → ℕ → Result (X × ℕ) Refusal) (at : ℕ) where
  pub several_none : read_several one 0 at ≡ Ok ([], at)
  unfolding read_several
  several_none = refl

  -- the next one is read, behind those before it
  pub several_more : (i place : ℕ) (before : List X) (next : X × ℕ) → read_several one i at ≡ Ok (before, place)
      → one before place ≡ Ok next → read_several one (i + 1) at ≡ Ok (before ++ (next.0 ∷ []), next.1)
  unfolding read_several
  several_more i place before next so is = let e : i + 1 ≡ suc i = omega arith in rw (e, so, is) refl

  past : (i d : ℕ) (e : Refusal) → read_several one i at ≡ Err e → read_several one (d + i) at ≡ Err e
  unfolding read_several
  past i zero e is = let z : 0 + i ≡ i = omega arith in rw z is
  past i (suc d) e is = let z : suc d + i ≡ suc (d + i) = omega arith in rw (z, past i d e is) refl

  -- the next one is refused, and so all are
  pub several_stop : (i k place : ℕ) (before : List X) (e : Refusal) → i < k → read_several one i at ≡ Ok (before, place)
      → one before place ≡ Err e → read_several one k at ≡ Err e
  unfolding read_several
  several_stop i k place before e more so is =
      let here : read_several one (suc i) at ≡ Err e = rw (so, is) refl in
      let rest = past (suc i) (k - suc i) e here in
      let all : (k - suc i) + suc i ≡ k = omega arith in
      rw all at rest

  -- what holds of none, and of one more where it held of those before, holds of all
  pub several_keeps : (P : ℕ → List X → ℕ → Type 0) → P 0 [] at
      → ((k : ℕ) (before : List X) (place : ℕ) (next : X × ℕ) → P k before place → one before place ≡ Ok next
      → P (suc k) (before ++ (next.0 ∷ [])) next.1)
      → (k : ℕ) (all : List X × ℕ) → read_several one k at ≡ Ok all → P k all.0 all.1
  unfolding read_several
  several_keeps P none more zero all is = let e : ([], at) ≡ all = cc in rw (← e) none
  several_keeps P none more (suc k) all is =
      let before = next_inv (λ (e : Refusal). e) (read_several one k at) _ all is in
      let next = next_inv (λ (e : Refusal). e) (one before.0.0 before.0.1) _ all before.2 in
      let e : (before.0.0 ++ (next.0.0 ∷ []), next.0.1) ≡ all = let q = next.2 in cc in
      let on = several_keeps P none more k before.0 before.1 in
      rw (← e) (more k before.0.0 before.0.1 next.0 on next.1)

  pub several_length : (k : ℕ) (all : List X × ℕ) → read_several one k at ≡ Ok all → length all.0 ≡ k
  several_length = several_keeps (λ k xs _. length xs ≡ k) refl (λ k before place next on read. omega (arith, length-append before (next.0 ∷ [])))

pub ruleset reading = (several_none, several_more, several_stop)
