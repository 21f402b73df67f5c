-- Laws of scripts as bytes. To be believed for scripts and reports.
use Rattle.std.specs.Prelude.{◌≡◌, ℕ, ◌<◌, ◌≤◌, List, [], ◌∷◌, ◌++◌, length, Ok, Err}
use Rattle.std.specs.List.{flat_map, AllByRecursion}
use Rattle.base.specs.declared.refusal.Refusal.{Refusal}
use Rattle.base.specs.declared.refusal.Refusal.TheVariants.{Short, Surplus}
use Rattle.numbers.specs.Numbers.{numbers_bytes}
use Rattle.scripts.specs.declared.entry.Entry.{Entry}
use Rattle.scripts.specs.ScriptValues.{ScriptValues, KeepsLimits}
use Rattle.scripts.specs.ScriptReading.{read_script}
use Rattle.proposals.specs.Kinds.{Kind}
use Rattle.base.specs.Limits.{number_limit}

-- the numbers of an entry
abbrev pub entry_numbers : Entry → List ℕ
entry_numbers e = e.round.0 ∷ e.number.0 ∷ e.lost.mask ∷ []

-- such a script may be read, with these proposals, where there is room for so many
pub record MayBeRead {K : Type 0} (places : ℕ) (s : ScriptValues) (ps : List K) : Type 0 where
  pub proper : KeepsLimits s
  pub whole : length ps ≡ s.n
  pub room : s.n ≤ places
  pub masks : AllByRecursion (λ e. e.lost.mask < number_limit) s.entries

-- the numbers of a script: n, t, those of the images, how many entries there are, and those of each
abbrev pub script_numbers : {K : Type 0} → Kind K → ScriptValues → List K → List ℕ
script_numbers kind s ps = s.n ∷ s.t ∷ (flat_map kind.image ps ++ (length s.entries ∷ flat_map entry_numbers s.entries))

module _ {K : Type 0} (kind : Kind K) where
  -- what is read is a script within the limits, and the bytes are those of its numbers
  abbrev pub ScriptReadsOnly : Type 0
  ScriptReadsOnly =
      (places : ℕ) (bytes : List ℕ) (s : ScriptValues) (ps : List K)
      → AllByRecursion (λ b. b < 256) bytes
      → read_script kind places bytes ≡ Ok (s, ps)
      → MayBeRead places s ps × (bytes ≡ numbers_bytes (script_numbers kind s ps))

  -- and every script within the limits reads back as itself
  abbrev pub ScriptReadsBack : Type 0
  ScriptReadsBack =
      (places : ℕ) (s : ScriptValues) (ps : List K)
      → MayBeRead places s ps
      → read_script kind places (numbers_bytes (script_numbers kind s ps)) ≡ Ok (s, ps)

  -- with more bytes behind it, it is refused surplus
  abbrev pub ScriptRefusesSurplus : Type 0
  ScriptRefusesSurplus =
      (places b : ℕ) (behind : List ℕ) (s : ScriptValues) (ps : List K)
      → MayBeRead places s ps
      → read_script kind places (numbers_bytes (script_numbers kind s ps) ++ (b ∷ behind)) ≡ Err Surplus

  -- bytes are judged as they are read: a fault stays the one told with more bytes behind it, unless it was that they end too soon
  abbrev pub ScriptFaultStays : Type 0
  ScriptFaultStays =
      (places : ℕ) (bytes behind : List ℕ) (e : Refusal)
      → read_script kind places bytes ≡ Err e
      → (e ≡ Short → ⊥)
      → read_script kind places (bytes ++ behind) ≡ Err e
