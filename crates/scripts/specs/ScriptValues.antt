-- What a script holds besides the proposals. To be believed for scripts and reports.
use Rattle.std.specs.Prelude.{◌≡◌, ℕ, ◌≤◌, true, List, length}
use Rattle.sets.specs.Companies.{is_company}
use Rattle.scripts.specs.declared.entry.Entry.{Entry}
use Rattle.scripts.specs.declared.script.Script.{Script}
use Rattle.scripts.specs.Entries.{entries_fit}

-- how many boxes the company has, how many of them may fall, and which fall
pub record ScriptValues : Type 0 where
  pub n : ℕ
  pub t : ℕ
  pub entries : List Entry

-- those of a script that was read
abbrev pub values_of : Script → ScriptValues
values_of s = record { n = s.n; t = s.t; entries = s.entries.items }

-- a script keeps the limits: n and t are those of a company, and it has at most t entries, each within the limits and no box in two of them
pub record KeepsLimits (s : ScriptValues) : Type 0 where
  pub size : is_company s.n s.t ≡ true
  pub few : length s.entries ≤ s.t
  pub fitting : entries_fit s.n s.t s.entries ≡ true
