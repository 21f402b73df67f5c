-- What is written reads back, and nothing else reads so.
use Rattle.std.proofs.Common.{◌≡◌, ℕ, zero, suc, ◌+◌, ◌-◌, ◌*◌, ◌/◌, ◌%◌, ◌<◌, ◌≤◌, ◌⊎◌, List, [], ◌∷◌, ◌++◌, map, length, get_or, take, drop, Ok, sym, refl, ap, ◌∙◌, inl, inr, ⊎_elim, append_assoc, mul-pos, arith}
use Rattle.std.specs.Int.Digits.{digits_of, number_from_digits, number_from_digits_after, AllBelowBase}
use Rattle.std.specs.List.{prefix_len, AllByRecursion}
use Rattle.std.proofs.lemmas.Nat.{div-mul-add, mod-mul-add}
use Rattle.std.proofs.lemmas.Int.Digits.{digits_of_step, length-digits_of-le, number_digits_of, all_below_base_digits_of, first_digits_of}
use Rattle.std.proofs.lemmas.List.{drop_at, take_at, append-nil}
use Rattle.std.proofs.lemmas.List.Sums.{prefix_len-le-length}
use Rattle.std.proofs.lemmas.Bool.{cases_lt}
use Rattle.std.proofs.lemmas.Grind.{common_steps}
use Rattle.std.proofs.lemmas.Bool.Decides.{nat_tests}
use Rattle.numbers.specs.declared.codec.Decoded.{Decoded}
use Rattle.numbers.specs.Numbers.{number_bytes, goes_on, value_of, read_groups}
use Rattle.numbers.specs.NumberLaws.{NumberReadsBack, NumberReadsOnly}
use Rattle.numbers.proofs.ReadingStep.{value_push}
use Rattle.base.specs.Limits.{number_limit}

-- digits with no zero in front are those of the number that they write behind the digits of a
digits_after : (b a : ℕ) (ds : List ℕ) → 2 ≤ b → AllBelowBase b ds → (0 < length ds → (0 < a) ⊎ (0 < get_or ds 0 0)) → digits_of b (number_from_digits_after b a ds) ≡ digits_of b a ++ ds
digits_after b a [] two under first = sym (append-nil (digits_of b a))
digits_after b a (d ∷ ds) two (low, under) first =
    let some : 0 < a * b + d = ⊎_elim (λ l. omega (arith, mul-pos {m = a} {n = b} l (omega arith))) (λ l. omega arith) (first (omega arith)) in
    let step : digits_of b (a * b + d) ≡ digits_of b a ++ (d ∷ []) = digits_of_step b (a * b + d) two some ∙ rw (div-mul-add a b d low, mod-mul-add a b d low) refl in
    digits_after b (a * b + d) ds two under (λ _. inl some) ∙ ap (λ l. l ++ ds) step ∙ append_assoc (digits_of b a) (d ∷ []) ds

-- groups ds, each marked, and then the last one
abbrev groups : List ℕ → ℕ → List ℕ
groups ds last = map (λ d. 128 + d) ds ++ (last ∷ [])

length-groups : (ds : List ℕ) (last : ℕ) → length (groups ds last) ≡ length ds + 1
length-groups ds last = grind (arith, common_steps)

-- the marked groups are those that go on
lead_marked : (ds : List ℕ) (last : ℕ) (behind : List ℕ) → last < 128 → prefix_len goes_on (groups ds last ++ behind) ≡ length ds
lead_marked [] last behind low = grind (arith, nat_tests)
lead_marked (d ∷ ds) last behind low = let ih = lead_marked ds last behind low in grind (arith, nat_tests)

low_marked : (ds : List ℕ) → AllBelowBase 128 ds → map (λ b. b % 128) (map (λ d. 128 + d) ds) ≡ ds
low_marked [] under = refl
low_marked (d ∷ ds) (low, under) = let ih = low_marked ds under in grind arith

-- what they read as, whatever stands behind
module _ (ds : List ℕ) (last : ℕ) (behind : List ℕ) (under : AllBelowBase 128 ds) (low : last < 128) where
  value_is : value_of (take (length ds + 1) (groups ds last ++ behind)) ≡ number_from_digits 128 ds * 128 + last
  value_is =
      let m : last % 128 ≡ last = omega arith in
      rw (take_at (groups ds last) behind (length ds + 1) (length-groups ds last), value_push, low_marked ds under, m) refl

  reads : (place : ℕ) → length ds ≤ 4 → number_from_digits 128 ds * 128 + last < number_limit
      → read_groups place (groups ds last ++ behind) ≡ Ok (record { value = number_from_digits 128 ds * 128 + last; next = place + (length ds + 1) })
  unfolding read_groups
  reads place few small =
      let long : length (groups ds last ++ behind) ≡ length ds + 1 + length behind = grind (arith, common_steps) in
      rw (lead_marked ds last behind low, value_is) (grind (arith, nat_tests))

-- the first byte is 80 (hex) just if the first group is 0 and not the last
padded : (ds : List ℕ) (last : ℕ) (behind : List ℕ) → last < 128 → get_or (groups ds last ++ behind) 0 0 ≡ 128 → (0 < length ds) × (get_or ds 0 0 ≡ 0)
padded [] last behind low e = absurd (omega arith)
padded (d ∷ ds) last behind low e = (omega arith, omega arith)

unpadded : (ds : List ℕ) (last : ℕ) (behind : List ℕ) → (get_or (groups ds last ++ behind) 0 0 ≡ 128 → ⊥) → 0 < length ds → 0 < get_or ds 0 0
unpadded [] last behind ne l = absurd (omega arith)
unpadded (d ∷ ds) last behind ne l = grind arith

some_digits : (h : ℕ) → 0 < length (digits_of 128 h) → 0 < h
some_digits zero l = l
some_digits (suc h) l = omega arith

written_unpadded : (n : ℕ) (behind : List ℕ) → get_or (number_bytes n ++ behind) 0 0 ≡ 128 → ⊥
unfolding number_bytes
written_unpadded n behind e =
    let p = padded (digits_of 128 (n / 128)) (n % 128) behind (omega arith) e in
    omega (arith, p.1, first_digits_of 128 (n / 128) (omega arith) (some_digits (n / 128) p.0))

written_reads : (n place : ℕ) (behind : List ℕ) → n < number_limit → read_groups place (number_bytes n ++ behind) ≡ Ok (record { value = n; next = place + length (number_bytes n) })
unfolding number_bytes
written_reads n place behind small =
    let ds = digits_of 128 (n / 128) in
    let few : length ds ≤ 4 = omega (arith, length-digits_of-le 128 4 (n / 128) (omega arith) (omega arith)) in
    let whole : number_from_digits 128 ds * 128 + n % 128 ≡ n = omega (arith, number_digits_of 128 (n / 128) (omega arith)) in
    let r = reads ds (n % 128) behind (all_below_base_digits_of 128 (n / 128) (omega arith)) (omega arith) place few (omega arith) in
    rw (length-groups ds (n % 128)) (rw whole at r)

pub number_back : NumberReadsBack
number_back n place bytes behind small is =
    let r = written_reads n place behind small in
    let u = written_unpadded n behind in
    let f : get_or bytes place 0 ≡ get_or (drop place bytes) 0 0 = grind (arith, common_steps) in
    grind (arith, nat_tests)

-- the groups that bytes begin with, where a last one is among them
record Grouped (bs : List ℕ) : Type 0 where
  ds : List ℕ
  last : ℕ
  behind : List ℕ
  under : AllBelowBase 128 ds
  low : last < 128
  is : bs ≡ groups ds last ++ behind

grouped : (bs : List ℕ) → AllByRecursion (λ b. b < 256) bs → prefix_len goes_on bs < length bs → Grouped bs
grouped [] all inside = absurd (omega arith)
grouped (b ∷ bs) (byte, all) inside = elim (cases_lt b 128) [
  | inl low ↦ record { ds = []; last = b; behind = bs; under = tt; low = low; is = refl }
  | inr high ↦
      let g = grouped bs all (grind (arith, nat_tests)) in
      let e : b ≡ 128 + (b - 128) = omega arith in
      record { ds = (b - 128) ∷ g.ds; last = g.last; behind = g.behind; under = (omega arith, g.under); low = g.low; is = λ j. e j ∷ g.is j }
]

-- what is known of groups that read as a number
record Read (place : ℕ) (bs : List ℕ) (d : Decoded) : Type 0 where
  small : d.value < number_limit
  inside : prefix_len goes_on bs < length bs
  value : value_of (take (prefix_len goes_on bs + 1) bs) ≡ d.value
  next : place + (prefix_len goes_on bs + 1) ≡ d.next

read_inv : (place : ℕ) (bs : List ℕ) (d : Decoded) → read_groups place bs ≡ Ok d → Read place bs d
unfolding read_groups
read_inv place bs d e =
    let most = prefix_len-le-length goes_on bs in
    record { small = grind (arith, nat_tests); inside = grind (arith, nat_tests); value = grind (arith, nat_tests); next = grind (arith, nat_tests) }

all_drop : (n : ℕ) (bs : List ℕ) → AllByRecursion (λ b. b < 256) bs → AllByRecursion (λ b. b < 256) (drop n bs)
all_drop zero bs all = all
all_drop (suc n) [] all = tt
all_drop (suc n) (b ∷ bs) (byte, all) = all_drop n bs all

-- groups that do not begin with an empty one are what the number that they make is written as
groups_only : (place : ℕ) (bs : List ℕ) (d : Decoded) → (get_or bs 0 0 ≡ 128 → ⊥) → Read place bs d → Grouped bs
    → (d.next ≡ place + length (number_bytes d.value)) × (bs ≡ number_bytes d.value ++ drop (d.next - place) bs)
unfolding number_bytes
groups_only place bs d ne r g =
    let lead : prefix_len goes_on bs ≡ length g.ds = ap (prefix_len goes_on) g.is ∙ lead_marked g.ds g.last g.behind g.low in
    let v : d.value ≡ number_from_digits 128 g.ds * 128 + g.last = sym r.value ∙ rw (lead, g.is) (value_is g.ds g.last g.behind g.under g.low) in
    let first = unpadded g.ds g.last g.behind (rw g.is at ne) in
    let digits : digits_of 128 (d.value / 128) ≡ g.ds = rw (v, div-mul-add (number_from_digits 128 g.ds) 128 g.last g.low) (digits_after 128 0 g.ds (omega arith) g.under (λ l. inr (first l))) in
    let last : d.value % 128 ≡ g.last = omega arith in
    let w : number_bytes d.value ≡ groups g.ds g.last = rw (digits, last) refl in
    let long : d.next - place ≡ length (groups g.ds g.last) = omega (arith, r.next, lead, length-groups g.ds g.last) in
    (rw w (omega (arith, r.next, long)), rw (w, g.is, drop_at (groups g.ds g.last) g.behind (d.next - place) (sym long)) refl)

pub number_only : NumberReadsOnly
number_only bytes place d all e =
    let p : read_groups place (drop place bytes) ≡ Ok d = grind (arith, nat_tests) in
    let r = read_inv place (drop place bytes) d p in
    let ne : get_or (drop place bytes) 0 0 ≡ 128 → ⊥ = λ q. grind (arith, common_steps) in
    let g = groups_only place (drop place bytes) d ne r (grouped (drop place bytes) (all_drop place bytes all) r.inside) in
    let j : drop (d.next - place) (drop place bytes) ≡ drop d.next bytes = grind (arith, common_steps) in
    (r.small, g.0, rw j at g.1)
