-- Which boxes fall by a script. To be believed for scripts and reports.
use Rattle.std.specs.Prelude.{ℕ, ◌+◌, Bool, true, not, ◌&&◌, ◌||◌, List, [], ◌∷◌, ◌==◌, nat_le, nat_lt}
use Rattle.std.specs.List.{list_any}
use Rattle.sets.specs.Companies.{is_bad_lost}
use Rattle.scripts.specs.declared.entry.Entry.{Entry}

-- one of the entries names box q
abbrev pub is_named : ℕ → List Entry → Bool
is_named q es = list_any (λ e. e.number.0 == q) es

-- that no entry may have this round: rounds count from 1, and by round t + 1 the boxes ring
abbrev pub bad_round : ℕ → ℕ → Bool
bad_round t r = r == 0 || nat_lt (t + 1) r

-- a script of n boxes of which t may fall may have this entry
abbrev pub entry_fits : ℕ → ℕ → Entry → Bool
entry_fits n t e = not (bad_round t e.round.0) && not (nat_le n e.number.0) && not (is_bad_lost n e.number.0 e.lost)

-- and these, which name no box twice
unfoldable pub entries_fit : ℕ → ℕ → List Entry → Bool
entries_fit n t [] = true
entries_fit n t (e ∷ es) = entry_fits n t e && not (is_named e.number.0 es) && entries_fit n t es
