-- What the bytes of numbers are for. To be believed for every promise on bytes.
use Rattle.std.specs.Prelude.{◌≡◌, ℕ, suc, ◌+◌, ◌^◌, ◌<◌, ◌≤◌, List, ◌++◌, length, drop, Ok}
use Rattle.std.specs.List.{AllByRecursion}
use Rattle.numbers.specs.declared.codec.Decoded.{Decoded}
use Rattle.numbers.specs.Numbers.{number_bytes, read_number}
use Rattle.base.specs.Limits.{number_limit}

-- a number that stands written at a place reads back as itself, whatever stands before and behind
abbrev pub NumberReadsBack : Type 0
NumberReadsBack = (n place : ℕ) (bytes behind : List ℕ)
    → n < number_limit
    → drop place bytes ≡ number_bytes n ++ behind
    → read_number bytes place ≡ Ok (record { value = n; next = place + length (number_bytes n) })

-- no other bytes read as that number: what was read is a number that there is, and the bytes that it is written as
abbrev pub NumberReadsOnly : Type 0
NumberReadsOnly = (bytes : List ℕ) (place : ℕ) (d : Decoded)
    → AllByRecursion (λ b. b < 256) bytes
    → read_number bytes place ≡ Ok d
    → (d.value < number_limit)
    × (d.next ≡ place + length (number_bytes d.value))
    × (drop place bytes ≡ number_bytes d.value ++ drop d.next bytes)

-- every number takes a byte at least, and one below 128 ^ (k + 1) no more than k + 1
abbrev pub NumberHasLength : Type 0
NumberHasLength = (k n : ℕ) → n < 128 ^ suc k
    → (1 ≤ length (number_bytes n)) × (length (number_bytes n) ≤ suc k)
