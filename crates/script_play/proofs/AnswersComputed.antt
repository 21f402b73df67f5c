-- The worked answers, by computation.
use Rattle.std.proofs.Common.{refl}
use Rattle.std.specs.Fmt.{digits}
use native.Mathlib.Decide.{dec_le}
use Rattle.base.specs.Counts.{any, count}
use Rattle.sets.specs.Masks.{bit, mask_of}
use Rattle.proposals.specs.Orders.{foremost}
use Rattle.scripts.specs.Numbers.{read_groups}
use Rattle.frames.specs.Frames.{read_image, read_proposal}
use Rattle.rule.specs.Falls.{closes, hears, found_missing, waste}
use Rattle.rule.specs.RuleValues.{missing_after, known_missing, smallest, best_horizon, estimate}
use Rattle.rule.specs.HeldValues.{held_after, outcome_of}
use Rattle.promise.specs.StateByHistory.{row_by}
use Rattle.scripts.specs.ScriptReading.{read_head, read_several, entry_at, read_entries, read_script}
use Rattle.reports.specs.Reports.{spaced_numbers, box_line, report_text, refusal_line}
use Rattle.script_play.specs.ScriptCalls.{falls_of}
use Rattle.script_play.specs.AnswerExamples.{Examples}

pub examples : Examples
unfolding digits any count bit mask_of foremost read_groups read_image read_proposal closes hears found_missing waste missing_after known_missing smallest best_horizon estimate held_after outcome_of row_by read_head read_several entry_at read_entries read_script spaced_numbers box_line report_text refusal_line falls_of dec_le
examples past_end = (refl, refl)
