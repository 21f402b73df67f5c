-- How a script is played, and what it comes to by the rule. To be believed for scripts and reports.
use Rattle.std.specs.Prelude.{ℕ, zero, suc, ◌+◌, ◌-◌, if◌then◌else◌, List, [], ◌∷◌, ◌++◌, get_or, Result, ◌==◌}
use Rattle.std.specs.Result.{result_map_both}
use Rattle.base.specs.declared.refusal.Refusal.{Refusal}
use Rattle.frames.specs.Frames.{longest_frame}
use Rattle.wire.specs.WireState.{WireState}
use Rattle.rule.specs.Falls.{Falls, no_falls, with_fall, past_falls, waste}
use Rattle.rule.specs.Histories.{History}
use Rattle.machine.specs.State.{State}
use Rattle.machine.specs.MakeCall.{on_make}
use Rattle.promise.specs.declared.request.Request.{Request}
use Rattle.promise.specs.declared.request.Request.TheVariants as request
use Rattle.promise.specs.StateByHistory.{state_by}
use Rattle.scripts.specs.declared.entry.Entry.{Entry}
use Rattle.scripts.specs.ScriptValues.{ScriptValues}
use Rattle.proposals.specs.Kinds.{Kind}

-- ---- the calls

-- the falls that are told before round r
unfoldable pub falls_before : ℕ → List Entry → List Request
falls_before r [] = []
falls_before r (e ∷ es) = if e.round.0 == r then request.Fall e.number e.lost ∷ falls_before r es else falls_before r es

-- the calls of round r: its falls are told, and it is played
abbrev pub calls_in : ℕ → List Entry → List Request
calls_in r es = falls_before r es ++ (request.Round longest_frame ∷ [])

-- those of the rounds up to r
unfoldable pub calls_to : List Entry → ℕ → List Request
calls_to es zero = []
calls_to es (suc r) = calls_to es r ++ calls_in (suc r) es

-- ---- the rule

-- the fall of each box, if an entry names it
unfoldable pub falls_of : List Entry → Falls
falls_of [] = no_falls
falls_of (e ∷ es) = with_fall e.round.0 e.number.0 e.lost (falls_of es)

-- the round t + 1 - D, where D is the most by which the boxes found missing in a round of the script, up to t + 1, exceed its number. D
-- over the rounds closed by then is the same (EndsRinging)
abbrev pub ringing_round_of : ScriptValues → ℕ
ringing_round_of s = s.t + 1 - waste (falls_of s.entries) s.n (s.t + 1)

-- all calls of a script, up to that round
abbrev pub calls_of : ScriptValues → List Request
calls_of s = calls_to s.entries (ringing_round_of s)

-- the history of a script with these proposals after that round. Entries of later rounds do not come about, and what stands for numbers
-- past the proposals does not count
abbrev pub history_of : {K : Type 0} → ScriptValues → List K → K → History K
history_of s proposals past_end = record {
  n = s.n;
  t = s.t;
  proposals = λ p. get_or proposals p past_end;
  falls = past_falls (ringing_round_of s) (falls_of s.entries);
  closed = ringing_round_of s;
}

-- making a ringing for a script with these proposals, over a wire with this meaning and for a row of so many places
abbrev pub on_make_for : {K : Type 0} → ScriptValues → WireState → ℕ → List K → Result (State K) Refusal
on_make_for s m places proposals = on_make s.n s.t m places proposals

-- what playing the script leaves: a ringing is made, unless that is refused, and at the end the state, of ringing and row, is that of the
-- history
abbrev pub on_play : {K : Type 0} → Kind K → ScriptValues → WireState → ℕ → List K → K → Result (State K) Refusal
on_play kind s m places proposals past_end =
    result_map_both (λ _. state_by kind (history_of s proposals past_end) m.posted) (λ e. e) (on_make_for s m places proposals)
