-- Bytes written where there is room for them.
use Rattle.std.proofs.Common.{◌≡◌, ℕ, ◌≤◌, List, ◌++◌, length, drop, Ok, ap, arith}
use Rattle.std.proofs.lemmas.Bool.Decides.{nat_tests}
use Rattle.base.specs.Buffers.{if_room, front_after, with_front}

pub if_room-fits : (xs : List ℕ) (room : ℕ) → length xs ≤ room → if_room xs room ≡ Ok xs
if_room-fits xs room fits = grind (arith, nat_tests)

pub with_front-fits : (xs out : List ℕ) → length xs ≤ length out → with_front xs out ≡ xs ++ drop (length xs) out
with_front-fits xs out fits = ap (λ r. front_after r out) (if_room-fits xs (length out) fits)
