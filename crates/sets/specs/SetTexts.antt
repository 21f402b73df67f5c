-- A set as text. To be believed for what is shown.
use Rattle.std.specs.Prelude.{ℕ, zero, suc, Bool, if◌then◌else◌, List, [], ◌++◌, codes, decimal}
use Rattle.sets.specs.declared.set.BoxSet.{BoxSet}
use Rattle.base.specs.Counts.{any}
use Rattle.base.specs.Limits.{most_company}
use Rattle.sets.specs.Masks.{member}

-- what stands between the numbers below n that pass and the next
abbrev pub separator : (ℕ → Bool) → ℕ → List ℕ
separator P n = if any P n then codes ", " else []

-- the numbers below n that pass, in decimal and in order, with a comma and a space between two
unfoldable pub list_text : (ℕ → Bool) → ℕ → List ℕ
list_text P zero = []
list_text P (suc n) =
    if P n then list_text P n ++ (separator P n ++ decimal n)
    else list_text P n

-- the boxes of a set, in braces
abbrev pub set_text : BoxSet → List ℕ
set_text s = codes "{" ++ (list_text (member s) most_company ++ codes "}")
