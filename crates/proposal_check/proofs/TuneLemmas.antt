-- Numbers that are the tunes of no medley, and four of them in a list.
use Rattle.std.proofs.Common.{◌≡◌, ℕ, ◌<◌, ◌≤◌, Bool, true, false, List, [], ◌∷◌, length, get_or, None, refl, arith}
use Rattle.proposal_check.specs.Tunes.{are_tunes}
use Rattle.proposal_check.specs.Medleys.{medley_by, medley_named}

none_by : (ns : List ℕ) (b : Bool) (e : are_tunes ns ≡ b) → b ≡ false → medley_by ns b e ≡ None
none_by ns true e f = absurd (grind arith)
none_by ns false e f = refl

pub none_named : (ns : List ℕ) → are_tunes ns ≡ false → medley_named ns ≡ None
none_named ns f = none_by ns (are_tunes ns) refl f

pub four_of : (ns : List ℕ) → 4 ≤ length ns → length ns < 5 → get_or ns 0 0 ∷ get_or ns 1 0 ∷ get_or ns 2 0 ∷ get_or ns 3 0 ∷ [] ≡ ns
four_of [] l m = absurd (omega arith)
four_of (a ∷ []) l m = absurd (omega arith)
four_of (a ∷ b ∷ []) l m = absurd (omega arith)
four_of (a ∷ b ∷ c ∷ []) l m = absurd (omega arith)
four_of (a ∷ b ∷ c ∷ d ∷ []) l m = refl
four_of (a ∷ b ∷ c ∷ d ∷ e ∷ ns) l m = absurd (omega arith)
