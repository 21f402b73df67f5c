-- Numbers one after another.
use Rattle.std.proofs.Common.{◌≡◌, ℕ, ◌+◌, ◌-◌, ◌<◌, ◌≤◌, List, [], ◌∷◌, ◌++◌, length, get_or, take, drop, Ok, refl, arith, length-append}
use Rattle.std.proofs.lemmas.List.{take_rest}
use Rattle.std.proofs.lemmas.List.Folds.{length-flat_map-take}
use Rattle.std.proofs.lemmas.Grind.{common_steps, flat_map-append}
use borrow.Rule.Slice.PartMut.{put_mid}
use Rattle.numbers.specs.Numbers.{number_bytes, numbers_bytes}
use Rattle.base.specs.Buffers.{with_front, len_if_room}
use Rattle.numbers.proofs.Groups.{length-written}
use Rattle.base.proofs.BufferLemmas.{with_front-fits}

pub written_all-cons : (n : ℕ) (ns : List ℕ) → numbers_bytes (n ∷ ns) ≡ number_bytes n ++ numbers_bytes ns
unfolding numbers_bytes
written_all-cons n ns = refl

pub written_all-nil : numbers_bytes [] ≡ []
unfolding numbers_bytes
written_all-nil = refl

-- each number takes a byte at least
pub length-le-written_all : (ns : List ℕ) → length ns ≤ length (numbers_bytes ns)
length-le-written_all [] = omega arith
length-le-written_all (n ∷ ns) =
    let some : 1 ≤ length (number_bytes n) = omega (arith, length-written n) in
    let rest = length-le-written_all ns in
    rw (written_all-cons n ns, length-append (number_bytes n) (numbers_bytes ns)) (omega arith)

pub written_all-append : (xs ys : List ℕ) → numbers_bytes (xs ++ ys) ≡ numbers_bytes xs ++ numbers_bytes ys
unfolding numbers_bytes
written_all-append = flat_map-append number_bytes

-- the numbers so far and the next one take no more than all
pub next_fits : (ns : List ℕ) (i : ℕ) → i < length ns → length (numbers_bytes (take i ns)) + length (number_bytes (get_or ns i 0)) ≤ length (numbers_bytes ns)
unfolding numbers_bytes
next_fits ns i inside = length-flat_map-take number_bytes ns i 0 inside

pub written_all-more : (ns : List ℕ) (i : ℕ) → i < length ns → numbers_bytes (take (i + 1) ns) ≡ numbers_bytes (take i ns) ++ number_bytes (get_or ns i 0)
unfolding numbers_bytes
written_all-more ns i inside = grind (arith, common_steps)

-- what fits behind the first `at` bytes of out is written there
pub told_rest : (w out : List ℕ) (at : ℕ) → at + length w ≤ length out → len_if_room w (take (length out - at) (drop at out)) ≡ Ok (length w)
told_rest w out at fits = rw (take_rest out at) (grind (arith, common_steps))

pub put_rest : (R w out first : List ℕ) (at : ℕ) → out ≡ R ++ drop at first → at ≡ length R → at + length w ≤ length first
    → put_mid at (length out - at) out (with_front w (take (length out - at) (drop at out))) ≡ (R ++ w) ++ drop (at + length w) first
put_rest R w out first at done long fits =
    rw (take_rest out at, with_front-fits w (drop at out) (grind (arith, common_steps))) (grind (arith, common_steps))

pub ruleset lays = (next_fits, written_all-nil, written_all-more, told_rest, length-append)
