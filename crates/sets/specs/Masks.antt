-- Masks as sets of boxes. To be believed for every promise.
use Rattle.std.specs.Prelude.{ℕ, zero, suc, ◌+◌, ◌/◌, ◌%◌, ◌^◌, Bool, if◌then◌else◌, ◌==◌}
use Rattle.base.specs.Limits.{most_company}
use Rattle.sets.specs.declared.set.BoxSet.{BoxSet}

-- whether bit i of a mask is set
unfoldable pub bit : ℕ → ℕ → Bool
bit mask i = mask / 2 ^ i % 2 == 1

-- the mask of the numbers below n that pass
unfoldable pub mask_of : (ℕ → Bool) → ℕ → ℕ
mask_of P zero = 0
mask_of P (suc n) = mask_of P n + (if P n then 2 ^ n else 0)

-- whether the box with this number is in the set
abbrev pub member : BoxSet → ℕ → Bool
member s i = bit s.mask i

-- the set of the boxes that pass, of those that a set has room for
abbrev pub set_of : (ℕ → Bool) → BoxSet
set_of P = record { mask = mask_of P most_company }
