-- Each clause is a lemma on counts.
use Rattle.base.proofs.CountLemmas.{any_from, any_has, count_le, count_same}
use Rattle.base.proofs.laws.counts_laws.Goals as goal

pub returns : goal.returns
returns c = record { any = λ P n. (any_has P n, any_from P n); subset = count_le; nested = count_same }
