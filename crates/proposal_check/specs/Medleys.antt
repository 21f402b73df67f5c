-- A medley: four numbers below the limit of an image; the smaller goes first, at the first place where two differ. This crate is a check from
-- outside: nothing of the product rests on it.
use Rattle.std.specs.Prelude.{◌≡◌, ℕ, Bool, true, false, List, Some, None, Option, refl}
use Rattle.std.specs.Ordering.{nat_cmp, is_le}
use Rattle.std.specs.Cmp.Lexicographic.{slice_cmp}
use Rattle.proposals.specs.Kinds.{Kind}
use Rattle.proposal_check.specs.declared.values.Medley.{Medley}
use Rattle.proposal_check.specs.Tunes.{are_tunes}

abbrev pub medley_by : (ns : List ℕ) (b : Bool) → are_tunes ns ≡ b → Option Medley
medley_by ns true e = Some (record { tunes = ns; limits = e })
medley_by ns false e = None

abbrev pub medley_image : Medley → List ℕ
medley_image x = x.tunes

-- the medley of these numbers, if they are four below the limit
abbrev pub medley_named : List ℕ → Option Medley
medley_named ns = medley_by ns (are_tunes ns) refl

abbrev pub medley_leads : Medley → Medley → Bool
medley_leads x y = is_le (slice_cmp nat_cmp x.tunes y.tunes)

-- medleys as a kind
abbrev pub medley_kind : Kind Medley
medley_kind = record { size = 4; image = medley_image; named = medley_named; leads = medley_leads }
