-- What is answered to the bytes of a script. To be believed for scripts and reports.
use Rattle.std.specs.Prelude.{ℕ, List, Ok, Err, Result}
use Rattle.std.specs.Result.{result_map_both}
use Rattle.base.specs.declared.refusal.Refusal.{Refusal}
use Rattle.base.specs.Limits.{most_company}
use Rattle.promise.specs.StateByHistory.{row_by}
use Rattle.scripts.specs.ScriptReading.{read_script}
use Rattle.script_play.specs.ScriptCalls.{history_of}
use Rattle.reports.specs.Reports.{report_text, refusal_line}
use Rattle.proposals.specs.Kinds.{Kind}

-- the text, or the line of the refusal
abbrev pub text_or_refusal : Result (List ℕ) Refusal → List ℕ
text_or_refusal (Ok text) = text
text_or_refusal (Err e) = refusal_line e

module _ {K : Type 0} (kind : Kind K) where
  -- the report of the boxes as they ring by the rule, or why the bytes are no script
  abbrev pub script_report : List ℕ → K → Result (List ℕ) Refusal
  script_report bytes past_end =
      result_map_both
      (λ x. report_text kind (row_by kind (history_of x.0 x.1 past_end)))
      (λ e. e)
      (read_script kind most_company bytes)

  -- what is answered
  abbrev pub answer_text : List ℕ → K → List ℕ
  answer_text bytes past_end = text_or_refusal (script_report bytes past_end)
