-- The limits of a company, and of a lost set in it. To be believed for every promise.
use Rattle.std.specs.Prelude.{ℕ, Bool, ◌&&◌, ◌||◌, nat_le, nat_lt}
use Rattle.sets.specs.declared.set.BoxSet.{BoxSet}
use Rattle.base.specs.Counts.{any}
use Rattle.sets.specs.Masks.{member}
use Rattle.base.specs.Limits.{most_company}

-- n boxes may be a company
abbrev pub is_company_size : ℕ → Bool
is_company_size n = nat_le 2 n && nat_le n most_company

-- and t of them may fall
abbrev pub is_company : ℕ → ℕ → Bool
is_company n t = is_company_size n && nat_le 1 t && nat_lt t n

-- a set is no lost set of box q in a company of n: it has a box that is none of the company's, or q itself
abbrev pub is_bad_lost : ℕ → ℕ → BoxSet → Bool
is_bad_lost n q s = any (λ i. member s i && nat_le n i) most_company || member s q
