-- A mask's digits as a test on places (`bit`), and the mask that a test makes (`mask_of`).
use Rattle.std.proofs.Common.{◌≡◌, ℕ, zero, suc, ◌+◌, ◌-◌, ◌/◌, ◌%◌, ◌^◌, ◌<◌, ◌≤◌, Bool, true, false, cond, not, ◌&&◌, ◌||◌, eqb, ltb, leb, sym, refl, ap, ◌∙◌, ap₂, suc-le-suc, lt_of_lt_of_le, div-lt_iff_lt-mul, one-mul, pow-suc, div-one, one-add, arith, pow_pos, pow_mono, shr-shr}
use native.Mathlib.Nat.{div-eq_of_lt}
use lib.Arith.{bin_ind, lt-one}
use lib.Bits.{bit_and, bit_or, bit_xor, and_le_l, and_mask, and_shr, and_step, or_shifted, or_shr, or_step, xor_add_and, xor_shr}
use lib.Count.{ones, ones_step}
use lib.Dec.{eqb-suc-zero, eqb-suc-suc}
use Rattle.std.proofs.lemmas.Bool.{eqb-true, eq-eqb}
use Rattle.std.proofs.lemmas.Bool.Decides.{nat_tests}
use Rattle.base.specs.Counts.{any, count}
use Rattle.sets.specs.Masks.{bit, mask_of, set_of}
use Rattle.sets.specs.SetLaws.{OnesAreMembers, MaskIsDetermined, MaskHasMembers, MaskIsBelow}
use Rattle.base.proofs.CountLemmas.{count_ext, not-any}

-- ---- the places of a mask

pub bit-shr : (mask j i : ℕ) → bit (mask / 2 ^ j) i ≡ bit mask (j + i)
unfolding bit
bit-shr mask j i = rw (shr-shr mask j i)

pub bit_step : (mask i : ℕ) → bit (mask / 2) i ≡ bit mask (suc i)
bit_step mask i = bit-shr mask 1 i ∙ ap (bit mask) (one-add i)

pub bit_low : (mask : ℕ) → bit mask 0 ≡ eqb (mask % 2) 1
unfolding bit
bit_low mask = rw (div-one mask)

-- as code reads a place
pub bit_read : (mask i : ℕ) → eqb (bit_and (mask / 2 ^ i) 1) 1 ≡ bit mask i
unfolding bit
bit_read mask i = rw (and_mask (mask / 2 ^ i) 1)

pub bit_high : (n mask i : ℕ) → mask < 2 ^ n → n ≤ i → bit mask i ≡ false
unfolding bit
bit_high n mask i h l = rw (div-eq_of_lt (lt_of_lt_of_le h (pow_mono l)))

pub bit-zero : (i : ℕ) → bit 0 i ≡ false
bit-zero i = bit_high 0 0 i (omega arith) (omega arith)

pub bit-power : (j i : ℕ) → bit (2 ^ j) i ≡ eqb i j
bit-power zero zero = bit_low 1
bit-power zero (suc i) = sym (bit_step 1 i) ∙ bit-zero i ∙ sym (eqb-suc-zero i)
bit-power (suc j) zero = let p = pow-suc 2 j in let b = bit_low (2 ^ suc j) in grind (arith, nat_tests)
bit-power (suc j) (suc i) =
    let half : 2 ^ suc j / 2 ≡ 2 ^ j = omega (arith, pow-suc 2 j) in
    sym (bit_step (2 ^ suc j) i) ∙ rw half (bit-power j i ∙ sym (eqb-suc-suc i j))

-- an operation that works on each place apart, by what it does at the lowest
bit_op : (op : ℕ → ℕ → ℕ) (f : Bool → Bool → Bool)
    → ((a b k : ℕ) → op a b / 2 ^ k ≡ op (a / 2 ^ k) (b / 2 ^ k))
    → ((a b : ℕ) → eqb (op a b % 2) 1 ≡ f (eqb (a % 2) 1) (eqb (b % 2) 1))
    → (a b i : ℕ) → bit (op a b) i ≡ f (bit a i) (bit b i)
unfolding bit
bit_op op f shr low a b i = rw (shr a b i) (low (a / 2 ^ i) (b / 2 ^ i))

pub bit-or : (a b i : ℕ) → bit (bit_or a b) i ≡ (bit a i || bit b i)
bit-or = bit_op bit_or ◌||◌ or_shr (λ a b. let s = or_step a b in grind (arith, nat_tests))

pub bit-and : (a b i : ℕ) → bit (bit_and a b) i ≡ (bit a i && bit b i)
bit-and = bit_op bit_and ◌&&◌ and_shr (λ a b. let s = and_step a b in grind (arith, nat_tests))

pub bit-xor : (a b i : ℕ) → bit (bit_xor a b) i ≡ cond (bit b i) (not (bit a i)) (bit a i)
bit-xor = bit_op bit_xor (λ x y. cond y (not x) x) xor_shr (λ a b. let s = xor_add_and a b in grind (arith, nat_tests))

-- as `!` turns each place over
pub bit-not : (n mask i : ℕ) → mask < 2 ^ n → bit (2 ^ n - 1 - mask) i ≡ (ltb i n && not (bit mask i))
bit-not zero mask i l =
    let none : 2 ^ 0 - 1 - mask ≡ 0 = omega arith in
    let z = bit-zero i in
    grind (arith, nat_tests)
bit-not (suc n) mask zero l =
    let p = pow-suc 2 n in
    let a = bit_low (2 ^ suc n - 1 - mask) in
    let b = bit_low mask in
    let odd : (2 ^ suc n - 1 - mask) % 2 + mask % 2 ≡ 1 = omega arith in
    grind (arith, nat_tests)
bit-not (suc n) mask (suc i) l =
    let p = pow-suc 2 n in
    let halves : (2 ^ suc n - 1 - mask) / 2 ≡ 2 ^ n - 1 - mask / 2 = omega arith in
    let ih = bit-not n (mask / 2) i (omega arith) in
    let a = bit_step (2 ^ suc n - 1 - mask) i in
    let b = bit_step mask i in
    grind (arith, nat_tests)

-- ---- a mask is its places

digit : (mask : ℕ) → mask % 2 ≡ cond (bit mask 0) 1 0
digit mask = let b = bit_low mask in grind (arith, nat_tests)

half_below : (n mask : ℕ) → mask < 2 ^ suc n → mask / 2 < 2 ^ n
half_below n mask l = omega (arith, pow-suc 2 n)

-- the set digits of a mask of n places are counted by `count`
pub ones_counted : OnesAreMembers
unfolding count ones
ones_counted zero mask l = ap ones (lt-one l)
ones_counted (suc n) mask l =
    ones_step mask
    ∙ ap₂ ◌+◌ (digit mask) (ones_counted n (mask / 2) (half_below n mask l) ∙ count_ext _ _ n (λ k _. bit_step mask k))

-- masks of n places that agree at each are equal
pub bit_ext : MaskIsDetermined
bit_ext zero a b l m e = lt-one l ∙ sym (lt-one m)
bit_ext (suc n) a b l m e =
    let halves = bit_ext n (a / 2) (b / 2) (half_below n a l) (half_below n b m) (λ i k. bit_step a i ∙ e (suc i) (suc-le-suc k) ∙ sym (bit_step b i)) in
    let digits : a % 2 ≡ b % 2 = digit a ∙ ap (λ t. cond t 1 0) (e 0 (omega arith)) ∙ sym (digit b) in
    omega arith

none_zero : (mask : ℕ) → ((i : ℕ) → bit mask i ≡ false) → mask ≡ 0
none_zero =
    bin_ind (λ m. ((i : ℕ) → bit m i ≡ false) → m ≡ 0) (λ _. refl)
    (λ m ih f. let h = ih (λ i. bit_step m i ∙ f (suc i)) in let d = digit m in let z = f 0 in grind arith)

pub shr_none : (n mask : ℕ) → ((i : ℕ) → n ≤ i → bit mask i ≡ false) → mask / 2 ^ n ≡ 0
shr_none n mask f = none_zero (mask / 2 ^ n) (λ i. bit-shr mask n i ∙ f (n + i) (omega arith))

pub shr_zero : (n mask : ℕ) → mask / 2 ^ n ≡ 0 → mask < 2 ^ n
shr_zero n mask e = rw one-mul at ((div-lt_iff_lt-mul {x = mask} {y = 1} (pow_pos n)).0 (omega arith))

-- a mask is below 2 ^ n exactly if no place from n on is set
pub mask_below : MaskIsBelow
mask_below n mask = (λ h i l. bit_high n mask i h l, λ f. shr_zero n mask (shr_none n mask f))

-- ---- the mask that a test makes

pub mask_of-below : (P : ℕ → Bool) (n : ℕ) → mask_of P n < 2 ^ n
unfolding mask_of
mask_of-below P zero = omega arith
mask_of-below P (suc n) = let ih = mask_of-below P n in let p = pow-suc 2 n in grind arith

pub mask_of-ext : (P Q : ℕ → Bool) (n : ℕ) → ((k : ℕ) → k < n → P k ≡ Q k) → mask_of P n ≡ mask_of Q n
unfolding mask_of
mask_of-ext P Q zero e = refl
mask_of-ext P Q (suc n) e = let ih = mask_of-ext P Q n (λ k l. e k (omega arith)) in let z = e n (omega arith) in cc

-- the mask has the numbers below n that pass
pub bit-mask_of : MaskHasMembers
unfolding mask_of
bit-mask_of P zero i = let z = bit-zero i in grind (arith, nat_tests)
bit-mask_of P (suc n) i =
    let ih = bit-mask_of P n i in
    let top : mask_of P n + 2 ^ n ≡ bit_or (2 ^ n) (mask_of P n) = omega (arith, simp one-mul at (or_shifted 1 n (mask_of P n) (mask_of-below P n))) in
    grind (arith, nat_tests, bit-or, bit-power)

-- a mask of n places that has just the places that pass is the mask that the test makes
pub mask_is : (P : ℕ → Bool) (n mask : ℕ) → mask < 2 ^ n → ((i : ℕ) → i < n → bit mask i ≡ P i) → mask ≡ mask_of P n
mask_is P n mask h e =
    bit_ext n mask (mask_of P n) h (mask_of-below P n) (λ i l. let m = bit-mask_of P n i in let p = e i l in grind (arith, nat_tests))

-- the same of a set
pub set_is : (P : ℕ → Bool) (mask : ℕ) → mask < 2 ^ 32 → ((i : ℕ) → i < 32 → bit mask i ≡ P i) → record { mask = mask } ≡ set_of P
set_is P mask h e = ap (λ m. record { mask = m }) (mask_is P 32 mask h e)

-- sets made by tests that agree are equal
pub set_ext : (P Q : ℕ → Bool) → ((i : ℕ) → i < 32 → P i ≡ Q i) → set_of P ≡ set_of Q
set_ext P Q e = ap (λ m. record { mask = m }) (mask_of-ext P Q 32 e)

pub mask_of-bit : (n mask : ℕ) → mask < 2 ^ n → mask_of (bit mask) n ≡ mask
mask_of-bit n mask h = sym (mask_is (bit mask) n mask h (λ _ _. refl))

pub mask_of-all : (n : ℕ) → mask_of (λ _. true) n ≡ 2 ^ n - 1
unfolding mask_of
mask_of-all zero = refl
mask_of-all (suc n) = let ih = mask_of-all n in omega (arith, pow-suc 2 n, pow_pos n)

pub bit-ones : (n i : ℕ) → bit (2 ^ n - 1) i ≡ ltb i n
bit-ones n i = let m = bit-mask_of (λ _. true) n i in let a = mask_of-all n in grind (arith, nat_tests)

-- what stands at a place of a mask that code makes, for `grind`
pub ruleset places = (bit-zero, bit-power, bit-ones, bit-or, bit-and, bit-xor)

-- ---- tests of masks, as code makes them

-- `a & b == a`: no place of a is missing from b
pub subset_is : (n a b : ℕ) → a < 2 ^ n → eqb (bit_and a b) a ≡ not (any (λ i. bit a i && not (bit b i)) n)
subset_is n a b h =
    not-any _ n _
    (λ t i l. let e = ap (λ m. bit m i) (eqb-true (bit_and a b) a t) in grind (arith, bit-and))
    (λ f. eq-eqb (bit_and a b) a (bit_ext n (bit_and a b) a (omega (arith, and_le_l a b)) h (λ i l. let g = f i l in grind (arith, bit-and))))

-- `mask >> n == 0`: no place from n on is set
pub above_is : (w n mask : ℕ) → mask < 2 ^ w → eqb (mask / 2 ^ n) 0 ≡ not (any (λ i. bit mask i && leb n i) w)
above_is w n mask h =
    not-any _ w _
    (λ t i l. let z : n ≤ i → bit mask i ≡ false = bit_high n mask i (shr_zero n mask (eqb-true (mask / 2 ^ n) 0 t)) in grind (arith, nat_tests))
    (λ f. eq-eqb (mask / 2 ^ n) 0 (shr_none n mask (λ i l.
    let inside : i < w → (bit mask i && leb n i) ≡ false = f i in
    let beyond : w ≤ i → bit mask i ≡ false = bit_high w mask i h in
    grind (arith, nat_tests))))
