-- What counts and tests of the numbers below n mean. To be believed for every promise that counts boxes.
use Rattle.std.specs.Prelude.{◌≡◌, ℕ, ◌<◌, ◌≤◌, Bool, true}
use Rattle.base.specs.Counts.{any, count}

-- below n, P passes only where Q does
abbrev pub IsWithin : (ℕ → Bool) → (ℕ → Bool) → ℕ → Type 0
IsWithin P Q n = (k : ℕ) → k < n → P k ≡ true → Q k ≡ true

-- some number below n passes exactly if one can be named
abbrev pub AnyHasWitness : Type 0
AnyHasWitness = (P : ℕ → Bool) (n : ℕ)
    → (any P n ≡ true → (k : ℕ) × (k < n) × (P k ≡ true))
    × ((k : ℕ) → k < n → P k ≡ true → any P n ≡ true)

-- a subset counts no more
abbrev pub SubsetCountsNoMore : Type 0
SubsetCountsNoMore = (P Q : ℕ → Bool) (n : ℕ) → IsWithin P Q n → count P n ≤ count Q n

-- nested sets of equal count are equal
abbrev pub NestedAreSame : Type 0
NestedAreSame = (P Q : ℕ → Bool) (n : ℕ) → IsWithin P Q n → count P n ≡ count Q n → (k : ℕ) → k < n → P k ≡ Q k
