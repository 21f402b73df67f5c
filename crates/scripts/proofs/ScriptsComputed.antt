-- The worked scripts, by computation.
use Rattle.std.proofs.Common.{◌≡◌, Some, refl, lit≤}
use native.Mathlib.Decide.{dec_le}
use Rattle.numbers.specs.Numbers.{read_groups}
use Rattle.base.specs.Counts.{any}
use Rattle.sets.specs.Masks.{bit, mask_of}
use Rattle.proposals.specs.Pieces.{piece_at}
use Rattle.proposals.specs.ProposalLemmas.{piece_at_lem}
use Rattle.frames.specs.Frames.{read_image, read_proposal}
use Rattle.scripts.specs.ScriptReading.{read_head, read_several, entry_at, read_entries, read_script}
use Rattle.scripts.specs.ScriptExamples.{piece, AcceptedScripts, RefusedScripts, FirstFaults, Examples}

-- which numbers are those of a piece
ten : piece_at 10 ≡ Some (piece 10 (lit≤ tt))
ten = piece_at_lem (piece 10 (lit≤ tt))

twenty : piece_at 20 ≡ Some (piece 20 (lit≤ tt))
twenty = piece_at_lem (piece 20 (lit≤ tt))

thirty : piece_at 30 ≡ Some (piece 30 (lit≤ tt))
thirty = piece_at_lem (piece 30 (lit≤ tt))

forty : piece_at 40 ≡ Some (piece 40 (lit≤ tt))
forty = piece_at_lem (piece 40 (lit≤ tt))

accepted : AcceptedScripts
unfolding any bit mask_of read_groups read_image read_proposal read_head read_several entry_at read_entries read_script
accepted = rw (thirty, twenty, ten, forty) refl

refused : RefusedScripts
unfolding any bit dec_le read_groups read_image read_proposal read_head read_several entry_at read_entries read_script
refused = (refl, refl, refl, refl, refl, refl, refl, refl, refl, refl, refl, refl, refl, refl, refl)

first_met : FirstFaults
unfolding any bit dec_le read_groups read_image read_proposal read_head read_several entry_at read_entries read_script
first_met = (refl, refl, refl, refl, refl, refl, refl, refl)

pub examples : Examples
examples = (accepted, refused, first_met)
