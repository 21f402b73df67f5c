-- What masks mean as sets of boxes. To be believed for every promise.
use Rattle.std.specs.Prelude.{◌≡◌, ℕ, ◌^◌, ◌<◌, ◌≤◌, Bool, false, ◌&&◌, count_ones, nat_lt}
use Rattle.base.specs.Counts.{count}
use Rattle.sets.specs.Masks.{bit, mask_of}

-- the count of set bits is the count of members
abbrev pub OnesAreMembers : Type 0
OnesAreMembers = (n mask : ℕ) → mask < 2 ^ n → count_ones mask ≡ count (bit mask) n

-- a mask is determined by its members
abbrev pub MaskIsDetermined : Type 0
MaskIsDetermined = (n a b : ℕ) → a < 2 ^ n → b < 2 ^ n
    → ((i : ℕ) → i < n → bit a i ≡ bit b i)
    → a ≡ b

-- the mask made from a test has just the members that pass, below n
abbrev pub MaskHasMembers : Type 0
MaskHasMembers = (P : ℕ → Bool) (n i : ℕ) → bit (mask_of P n) i ≡ (nat_lt i n && P i)

-- a mask is below 2^n exactly if it has no member at n or above
abbrev pub MaskIsBelow : Type 0
MaskIsBelow = (n mask : ℕ)
    → (mask < 2 ^ n → (i : ℕ) → n ≤ i → bit mask i ≡ false)
    × (((i : ℕ) → n ≤ i → bit mask i ≡ false) → mask < 2 ^ n)
