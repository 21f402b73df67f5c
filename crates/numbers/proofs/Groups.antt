-- The bytes of a number, group by group.
use Rattle.std.proofs.Common.{◌≡◌, ℕ, ◌*◌, zero, suc, refl, ◌-◌, ◌+◌, ◌/◌, ◌%◌, ◌^◌, ◌<◌, ◌≤◌, List, [], ◌∷◌, ◌++◌, map, length, drop, set, max, ap, ◌∙◌, pow-suc, arith, length-append}
use Rattle.std.proofs.Math.Nat.{one-le-pow, pow-le-pow_right}
use lib.Bits.{bit_and, bit_or}
use lib.ListN.{length-map}
use Rattle.std.specs.Int.Digits.{digits_of}
use Rattle.std.proofs.lemmas.Int.Digits.{digits_of_step, length-digits_of-le}
use Rattle.std.proofs.lemmas.Nat.{and_mask, or_shifted, pow-add}
use Rattle.std.proofs.lemmas.List.{map_push, length-set}
use Rattle.std.proofs.lemmas.Grind.{common_steps}
use Rattle.numbers.specs.Numbers.{marked_groups, number_bytes}
use Rattle.numbers.specs.NumberLaws.{NumberHasLength}

-- one group more, at the end
marked_step : (h : ℕ) → 0 < h → marked_groups h ≡ marked_groups (h / 128) ++ ((128 + h % 128) ∷ [])
marked_step h some = ap (map (λ d. 128 + d)) (digits_of_step 128 h (omega arith) some) ∙ map_push (λ d. 128 + d) (digits_of 128 (h / 128)) (h % 128)

length-marked_step : (h : ℕ) → 0 < h → length (marked_groups h) ≡ length (marked_groups (h / 128)) + 1
length-marked_step h some = ap length (marked_step h some) ∙ length-append (marked_groups (h / 128)) ((128 + h % 128) ∷ [])

length-marked : (k h : ℕ) → h < 128 ^ k → length (marked_groups h) ≤ k
length-marked k h small = omega (arith, length-map (digits_of 128 h) (λ d. 128 + d), length-digits_of-le 128 k h (omega arith) small)

pub length-written : (n : ℕ) → length (number_bytes n) ≡ length (marked_groups (n / 128)) + 1
unfolding number_bytes
length-written n = length-append (marked_groups (n / 128)) (n % 128 ∷ [])

pub number_length : NumberHasLength
number_length k n small =
    let most = length-marked k (n / 128) (omega (arith, pow-suc 128 k)) in
    (omega (arith, length-written n), omega (arith, length-written n))

-- how many bytes the highest power of 128 in a number tells
pub length_by_power : (n k : ℕ) → 128 ^ k ≤ max n 1 → max n 1 < 128 * 128 ^ k → k + 1 ≡ length (number_bytes n)
length_by_power n zero large small = omega (arith, number_length 0 n (omega arith))
length_by_power n (suc k) large small =
    let next = pow-suc 128 k in
    let some = one-le-pow k 128 (omega arith) in
    let fewer = length_by_power (n / 128) k (omega arith) (omega arith) in
    omega (arith, fewer, length-written n, length-written (n / 128), length-marked_step (n / 128) (omega arith))

-- the same by the highest power of 2, since a group has seven bits
power_of_groups : (k : ℕ) → 2 ^ (k * 7) ≡ 128 ^ k
power_of_groups zero = refl
power_of_groups (suc k) =
    let more : suc k * 7 ≡ 7 + k * 7 = omega arith in
    rw more (omega (arith, pow-add 2 7 (k * 7), power_of_groups k, pow-suc 128 k))

pub length_by_bits : (n bits : ℕ) → 2 ^ bits ≤ max n 1 → max n 1 < 2 * 2 ^ bits → bits / 7 + 1 ≡ length (number_bytes n)
length_by_bits n bits large small =
    let k = bits / 7 in
    let full = pow-le-pow_right {n = 2} (omega arith) {i = k * 7} {j = bits} (omega arith) in
    let next = pow-le-pow_right {n = 2} (omega arith) {i = suc bits} {j = suc k * 7} (omega arith) in
    length_by_power n k
    (omega (arith, full, power_of_groups k))
    (omega (arith, next, power_of_groups (suc k), pow-suc 128 k, pow-suc 2 bits))

-- what the writer computes of a group
marked_byte : (n : ℕ) → bit_or 128 (bit_and n 127) ≡ 128 + n % 128
marked_byte n = ap (bit_or 128) (and_mask n 7) ∙ or_shifted 1 7 (n % 128) (omega arith)

-- the last group is written first, and then each marked one before it
pub put_last : (n k : ℕ) (out : List ℕ) → k ≡ length (number_bytes n) → k ≤ length out → marked_groups (n / 128) ++ drop (k - 1) (set out (k - 1) (bit_and n 127)) ≡ number_bytes n ++ drop k out
unfolding number_bytes
put_last n k out long room = grind (arith, common_steps)

pub put_more : (h k : ℕ) (out : List ℕ) → length (marked_groups h) ≡ k → 0 < k → k ≤ length out → marked_groups (h / 128) ++ drop (k - 1) (set out (k - 1) (bit_or 128 (bit_and h 127))) ≡ marked_groups h ++ drop k out
put_more zero k out long some room = absurd (omega arith)
put_more (suc h) k out long some room = rw (marked_byte (suc h), marked_step (suc h) (omega arith)) (grind (arith, common_steps))

pub fewer_marked : (h : ℕ) → length (marked_groups (h / 128)) ≡ length (marked_groups h) - 1
fewer_marked zero = refl
fewer_marked (suc h) = omega (arith, length-marked_step (suc h) (omega arith))

pub ruleset writes = (length-set, length-written, fewer_marked, put_last, put_more)
