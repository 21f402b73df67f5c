-- A script as bytes: n, t, n images, a count, and so many entries of round, box and lost set. To be believed for scripts and reports.
use Rattle.std.specs.Prelude.{ℕ, zero, suc, ⊤, Bool, not, List, [], ◌∷◌, ◌++◌, length, drop, Ok, Err, Result, nat_le, nat_lt}
use Rattle.numbers.specs.declared.codec.Decoded.{Decoded}
use Rattle.base.specs.declared.refusal.Refusal.{Refusal}
use Rattle.base.specs.declared.refusal.Refusal.TheVariants as refusal
use Rattle.base.specs.Refusals.{unless}
use Rattle.numbers.specs.Numbers.{read_number}
use Rattle.sets.specs.Companies.{is_company, is_bad_lost}
use Rattle.base.specs.Results.{◌>>=◌, map_fault}
use Rattle.frames.specs.FrameFaults.{refusal_of}
use Rattle.frames.specs.Frames.{read_proposal}
use Rattle.scripts.specs.declared.entry.Entry.{Entry}
use Rattle.scripts.specs.declared.reader.Head.{Head}
use Rattle.scripts.specs.Entries.{is_named, bad_round}
use Rattle.scripts.specs.ScriptValues.{ScriptValues}
use Rattle.proposals.specs.Kinds.{Kind}

-- the number at a place, and the place behind it
abbrev pub number_at : List ℕ → ℕ → Result Decoded Refusal
number_at bytes place = map_fault (λ e. e.refusal) (read_number bytes place)

-- none of these faults is there, or the first that is
abbrev pub unless_fault : List (Bool × Refusal) → Result ⊤ Refusal
unless_fault faults = unless faults tt

-- n and t, with room for so many proposals
unfoldable pub read_head : ℕ → List ℕ → Result Head Refusal
read_head places bytes = do
  n ← number_at bytes 0
  t ← number_at bytes n.next
  unless
      ((not (is_company n.value t.value), refusal.Company)
      ∷ (nat_lt places n.value, refusal.Row)
      ∷ [])
      (record { n = n.value; t = t.value; next = t.next })

-- several things one after another from a place on, each judged by those before it, and the place behind the last
unfoldable pub read_several : {X : Type 0} → (List X → ℕ → Result (X × ℕ) Refusal) → ℕ → ℕ → Result (List X × ℕ) Refusal
read_several one zero place = Ok ([], place)
read_several one (suc k) place = do
  before ← read_several one k place
  next ← one before.0 before.1
  Ok (before.0 ++ (next.0 ∷ []), next.1)

-- the proposal at a place
abbrev pub proposal_at : {K : Type 0} → Kind K → List ℕ → ℕ → Result (K × ℕ) Refusal
proposal_at kind bytes place = map_fault refusal_of (read_proposal kind bytes place)

-- so many proposals from a place on
abbrev pub read_proposals : {K : Type 0} → Kind K → List ℕ → ℕ → ℕ → Result (List K × ℕ) Refusal
read_proposals kind bytes k place = read_several (λ _. proposal_at kind bytes) k place

-- the entry at a place, in a script of n boxes of which t may fall, where these stand before it
unfoldable pub entry_at : ℕ → ℕ → List ℕ → List Entry → ℕ → Result (Entry × ℕ) Refusal
entry_at n t bytes before place = do
  r ← number_at bytes place
  _ ← unless_fault ((bad_round t r.value, refusal.Entry) ∷ [])
  q ← number_at bytes r.next
  _ ← unless_fault ((nat_le n q.value, refusal.Stranger) ∷ (is_named q.value before, refusal.Entry) ∷ [])
  s ← number_at bytes q.next
  unless
      ((is_bad_lost n q.value (record { mask = s.value }), refusal.Set) ∷ [])
      (record { round = record { 0 = r.value }; number = record { 0 = q.value }; lost = record { mask = s.value } }, s.next)

-- the entries, of which the count stands at a place
unfoldable pub read_entries : ℕ → ℕ → List ℕ → ℕ → Result (List Entry × ℕ) Refusal
read_entries n t bytes place = do
  count ← number_at bytes place
  _ ← unless_fault ((nat_lt t count.value, refusal.Entry) ∷ [])
  read_several (entry_at n t bytes) count.value count.next

-- the script that all the bytes make, with room for so many proposals: what it holds, and the proposals. Each number or image is judged
-- when it is read, and bytes that follow are refused last
unfoldable pub read_script : {K : Type 0} → Kind K → ℕ → List ℕ → Result (ScriptValues × List K) Refusal
read_script kind places bytes = do
  head ← read_head places bytes
  proposals ← read_proposals kind bytes head.n head.next
  entries ← read_entries head.n head.t bytes proposals.1
  unless
      ((nat_lt entries.1 (length bytes), refusal.Surplus) ∷ [])
      (record { n = head.n; t = head.t; entries = entries.0 }, proposals.0)

-- what the places for the proposals hold then: at the front those of the script, and the others what they held
abbrev pub places_after : {K : Type 0} → Result (ScriptValues × List K) Refusal → List K → List K
places_after (Ok script) old = script.1 ++ drop (length script.1) old
places_after (Err e) old = old
