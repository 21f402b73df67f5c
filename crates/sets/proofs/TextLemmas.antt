-- A set written as text, box by box.
use Rattle.std.proofs.Common.{◌≡◌, ℕ, ◌+◌, Bool, true, false, cond, List, ◌++◌, codes, decimal, ap, add-one, arith}
use Rattle.std.proofs.Output.{has_written_append, has_written_of_eq, has_written_to_eq}
use Rattle.std.specs.declared.fmt.Formatter.{Formatter}
use Rattle.std.specs.Fmt.{IsPlainFormatter, HasWritten}
use Rattle.base.specs.Counts.{any}
use Rattle.sets.specs.SetTexts.{separator, list_text}

module _ {W : Type 0} (took : W → List ℕ → W → Type 0) (P : ℕ → Bool) (start : Formatter W) where
  -- the numbers below i are written, and what is to stand before the next
  abbrev pub Listed : ℕ → List ℕ → Formatter W → Type 0
  Listed i between f = (between ≡ separator P i) × (IsPlainFormatter start → HasWritten took start (list_text P i) f)

  module _ (i : ℕ) (between : List ℕ) (f : Formatter W) (so : Listed i between f) where
    pub listed_skip : (f' : Formatter W) → P i ≡ false → f' ≡ f → Listed (i + 1) between f'
    unfolding any list_text
    listed_skip f' off is =
        let one = so.0 in
        let text : list_text P i ≡ cond (P i) (list_text P i ++ (separator P i ++ decimal i)) (list_text P i) = grind arith in
        rw (add-one i) (grind arith, λ p. has_written_to_eq took start _ f f' is (has_written_of_eq took start (list_text P i) _ f text (so.1 p)))

    pub listed_take : (f' g : Formatter W) → P i ≡ true → (IsPlainFormatter f → HasWritten took f (between ++ decimal i) g)
        → f' ≡ g → Listed (i + 1) (codes ", ") f'
    unfolding any list_text
    listed_take f' g on wrote is =
        let text : list_text P i ++ (between ++ decimal i) ≡ cond (P i) (list_text P i ++ (separator P i ++ decimal i)) (list_text P i) = rw on (ap (λ b. list_text P i ++ (b ++ decimal i)) so.0) in
        rw (add-one i) (grind arith, λ p. let before = so.1 p in has_written_to_eq took start _ g f' is (has_written_of_eq took start _ _ g text (has_written_append took start (list_text P i) f (between ++ decimal i) g before (wrote before.plain))))
