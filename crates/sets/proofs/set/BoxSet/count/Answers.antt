-- The set digits are the members.
use Rattle.std.proofs.Common.{rules}
use Rattle.sets.proofs.BitLemmas.{ones_counted}
use Rattle.sets.proofs.set.BoxSet.count.Goals as goal

pub returns : goal.returns
returns c = search (rules, ones_counted 32)
