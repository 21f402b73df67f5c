-- A list with a value in place of another.
use Rattle.std.proofs.Common.{◌≡◌, ℕ, ◌<◌, false, eqb, List, length, get_or, set, arith}
use Rattle.std.proofs.lemmas.Bool.Decides.{nat_tests}
use Rattle.std.proofs.lemmas.List.{get_or-set_same, get_or-set_other}

-- what stands there, and at the other places
pub replaced : {X : Type 0} (xs : List X) (q : ℕ) (x d : X) → q < length xs
    → (get_or (set xs q x) q d ≡ x) × ((i : ℕ) → eqb i q ≡ false → get_or (set xs q x) i d ≡ get_or xs i d)
replaced xs q x d l = (get_or-set_same xs q x d l, λ i e. get_or-set_other xs q i x d (λ k. grind (arith, nat_tests)))
