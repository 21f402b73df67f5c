-- What playing a script comes to. To be believed for scripts and reports.
use Rattle.std.specs.Prelude.{◌≡◌, ℕ, ◌+◌, ◌<◌, ◌≤◌, true, false, Option, List, Some, None, Ok}
use Rattle.std.specs.List.{slice_get}
use Rattle.base.specs.Limits.{most_company}
use Rattle.wire.specs.WireState.{WireState, IsWellFormed, new_wire}
use Rattle.rule.specs.declared.falls.Fall.{Fall}
use Rattle.rule.specs.Falls.{closes}
use Rattle.rule.specs.Histories.{History, IsAllowed, ringing_round}
use Rattle.rule.specs.RuleValues.{estimate}
use Rattle.rule.specs.RuleLaws.{RingsIn, IsQuietBefore, RingsOnOne, RingsOnProposal, RingsOnFirst}
use Rattle.machine.specs.declared.place.Blow.TheVariants.{Undrawn}
use Rattle.machine.specs.declared.place.Rung.{Rung}
use Rattle.machine.specs.Places.{down, rung}
use Rattle.machine.specs.State.{State}
use Rattle.machine.specs.RowCheck.{bad_row, is_over}
use Rattle.promise.specs.CallSteps.{state_after, all_accepted}
use Rattle.promise.specs.StateByHistory.{row_by, state_by}
use Rattle.scripts.specs.declared.entry.Entry.{Entry}
use Rattle.scripts.specs.Entries.{is_named}
use Rattle.scripts.specs.ScriptValues.{ScriptValues, KeepsLimits}
use Rattle.scripts.specs.ScriptReading.{read_script}
use Rattle.script_play.specs.ScriptCalls.{calls_to, calls_of, falls_of, ringing_round_of, history_of, on_make_for}
use Rattle.proposals.specs.Kinds.{Kind}

-- a history ends in the round in which its boxes ring: it keeps the limits; its last round is t + 1 - D, D taken over the rounds closed,
-- and one of 1 to t + 1; nobody rang before; all boxes that closed it ring in it, and one at least; they do so on one estimate, which a
-- box proposed, and no ringing box proposed one that goes before it
pub record EndsRinging {K : Type 0} (kind : Kind K) (h : History K) : Type 0 where
  pub allowed : IsAllowed h
  pub round : h.closed ≡ ringing_round h
  pub in_time : (1 ≤ h.closed) × (h.closed ≤ h.t + 1)
  pub quiet : IsQuietBefore h h.closed
  pub all : (p : ℕ) → p < h.n → closes h.falls p h.closed ≡ true → RingsIn h p h.closed
  pub one : (p : ℕ) × RingsIn h p h.closed
  pub agree : RingsOnOne h kind × RingsOnProposal h kind × RingsOnFirst h kind

-- how box p rings in the last round, if it does: on its estimate
abbrev pub rung_by : {K : Type 0} → Kind K → History K → ℕ → Rung K
rung_by kind h p = record { round = record { 0 = h.closed }; proposal = estimate h kind p h.closed; blow = Undrawn }

-- what stands at the places then: a box that fell is down since its round, and each other rings in that round on its estimate
abbrev pub AllRing : {K : Type 0} → Kind K → History K → Type 0
AllRing kind h =
    (p : ℕ)
    → p < h.n
    → ((f : Fall) → h.falls p ≡ Some f → slice_get (row_by kind h) p ≡ Some (down f.round))
    × (h.falls p ≡ None → slice_get (row_by kind h) p ≡ Some (rung (rung_by kind h p)))

-- played from this state on, in 1 to t + 1 rounds, each call is accepted, the boxes ring after the last round and not before, and the row
-- is not refused then
pub record CallsAreAccepted {K : Type 0} (kind : Kind K) (s : ScriptValues) (first : State K) : Type 0 where
  pub in_time : (1 ≤ ringing_round_of s) × (ringing_round_of s ≤ s.t + 1)
  pub accepted : all_accepted kind (calls_of s) first ≡ true
  pub still : (r : ℕ) → r < ringing_round_of s → is_over (state_after kind (calls_to s.entries r) first) ≡ false
  pub rings : is_over (state_after kind (calls_of s) first) ≡ true
  pub good : bad_row (state_after kind (calls_of s) first) ≡ false

-- and they lead to the state of a history
abbrev pub LeadsTo : {K : Type 0} → Kind K → (ℕ → Option (List ℕ)) → ScriptValues → History K → State K → Type 0
LeadsTo kind unopened s h first =
    CallsAreAccepted kind s first × (state_after kind (calls_of s) first ≡ state_by kind h unopened)

-- every script, with any proposals, is played so over every wire, from the making on; then the ringing and its row are those of the rule,
-- by which all ring
abbrev pub ScriptPlays : {K : Type 0} → Kind K → Type 0
ScriptPlays {K} kind =
    (s : ScriptValues) → KeepsLimits s → (proposals : List K) (past_end : K)
    → let h = history_of s proposals past_end in
    EndsRinging kind h
    × AllRing kind h
    × ((places : ℕ) (m : WireState) (first : State K)
    → IsWellFormed m
    → on_make_for s m places proposals ≡ Ok first
    → LeadsTo kind m.posted s h first)

-- bytes that are a script are played so on a new wire; making a ringing for it is not refused there
abbrev pub BytesPlay : {K : Type 0} → Kind K → List ℕ → Type 0
BytesPlay {K} kind bytes =
    (s : ScriptValues) (proposals : List K) (past_end : K)
    → read_script kind most_company bytes ≡ Ok (s, proposals)
    → let h = history_of s proposals past_end in
    EndsRinging kind h
    × AllRing kind h
    × ((first : State K)
    × (on_make_for s (new_wire s.n) s.n proposals ≡ Ok first)
    × LeadsTo kind (λ _. None) s h first)

-- each entry counts, wherever it stands: the fall of a box is that of the entry that names it, and a box that none names does not fall
abbrev pub EntriesCount : Type 0
EntriesCount =
    (s : ScriptValues) → KeepsLimits s
    → ((i : ℕ) (e : Entry) → slice_get s.entries i ≡ Some e
    → falls_of s.entries e.number.0 ≡ Some (record { round = e.round; lost = e.lost }))
    × ((q : ℕ) → is_named q s.entries ≡ false → falls_of s.entries q ≡ None)
