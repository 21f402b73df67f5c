-- How a number stands in bytes: in groups of seven bits, the highest group first, and every byte but the last with its top bit set. To be believed
-- for every promise on bytes.
use Rattle.std.specs.Prelude.{ℕ, ◌+◌, ◌/◌, ◌%◌, Bool, if◌then◌else◌, ◌&&◌, List, [], ◌∷◌, ◌++◌, map, length, take, drop, Ok, Err, codes, decimal, Result, ◌==◌, nat_le, nat_lt, slice_index}
use Rattle.std.specs.Int.Digits.{digits_of, number_from_digits}
use Rattle.std.specs.List.{flat_map, prefix_len}
use Rattle.base.specs.declared.refusal.Refusal.{Refusal}
use Rattle.base.specs.declared.refusal.Refusal.TheVariants.{Short, Wide, Padded}
use Rattle.numbers.specs.declared.codec.NumberFault.{NumberFault}
use Rattle.numbers.specs.declared.codec.Decoded.{Decoded}
use Rattle.base.specs.Refusals.{refusal_text}
use Rattle.base.specs.Limits.{number_limit}

-- the groups of h, the highest first, each with the top bit set
abbrev pub marked_groups : ℕ → List ℕ
marked_groups h = map (λ d. 128 + d) (digits_of 128 h)

-- the bytes of a number
unfoldable pub number_bytes : ℕ → List ℕ
number_bytes n = marked_groups (n / 128) ++ (n % 128 ∷ [])

-- the bytes of several numbers, one after another
unfoldable pub numbers_bytes : List ℕ → List ℕ
numbers_bytes ns = flat_map number_bytes ns

-- a byte with its top bit set: the number goes on behind it
abbrev pub goes_on : ℕ → Bool
goes_on b = nat_le 128 b

-- the number that the low seven bits of some bytes make, the highest group first
abbrev pub value_of : List ℕ → ℕ
value_of bs = number_from_digits 128 (map (λ b. b % 128) bs)

-- the text of a fault: refusal and place, with a space between
abbrev pub fault_text : NumberFault → List ℕ
fault_text e = refusal_text e.refusal ++ (codes " " ++ decimal e.place)

-- the number at a place is not read, and why
abbrev pub refuse : Refusal → ℕ → Result Decoded NumberFault
refuse e place = Err (record { refusal = e; place = place })

-- the number that the groups at the front of bs make, which begin at a place. A fifth byte that goes on is refused before
-- all else, even where the bytes end behind it; then an end before the last group; then five groups that exceed 2^32 - 1
unfoldable pub read_groups : ℕ → List ℕ → Result Decoded NumberFault
read_groups place bs =
    let lead = prefix_len goes_on bs in
    let value = value_of (take (lead + 1) bs) in
    if nat_le 5 lead then refuse Wide place
    else if lead == length bs then refuse Short place
    else if nat_lt value number_limit then Ok (record { value = value; next = place + (lead + 1) })
    else refuse Wide place

-- the number that begins at a place of the bytes. A first byte 80 (hex), an empty group, is refused first
abbrev pub read_number : List ℕ → ℕ → Result Decoded NumberFault
read_number bytes place =
    if nat_lt place (length bytes) && slice_index bytes place == 128 then refuse Padded place
    else read_groups place (drop place bytes)
