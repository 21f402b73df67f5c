use Rattle.numbers.proofs.Groups.{number_length}
use Rattle.numbers.proofs.NumberRoundTrip.{number_back, number_only}
use Rattle.numbers.proofs.laws.numbers_laws.Goals as goal

pub returns : goal.returns
returns c = record { back = number_back; only = number_only; len = number_length }
