use Rattle.std.proofs.Common.{refl, lit≤}
use Rattle.numbers.specs.Numbers.{read_groups}
use Rattle.sets.specs.Masks.{mask_of}
use Rattle.proposals.specs.ProposalLemmas.{piece_at_lem}
use Rattle.frames.specs.Frames.{read_image, read_head, read_proposal}
use Rattle.frames.proofs.laws.examples_laws.Goals as goal

pub returns : goal.returns
unfolding read_groups read_image read_head read_proposal mask_of
returns c = record { examples = (refl, refl, refl, refl, refl, rw (piece_at_lem (record { number = 20; most = lit≤ tt })) refl) }
