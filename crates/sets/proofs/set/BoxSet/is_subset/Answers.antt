-- The bits in common are all of the first mask's just where none of them is missing from the second.
use Rattle.std.proofs.Common.{rules}
use Rattle.sets.proofs.BitLemmas.{subset_is}
use Rattle.sets.proofs.set.BoxSet.is_subset.Goals as goal

pub returns : goal.returns
returns c = search (rules, subset_is 32)
