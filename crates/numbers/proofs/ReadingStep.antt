-- One step of reading a number.
use Rattle.std.proofs.Common.{◌≡◌, ℕ, ◌+◌, ◌*◌, ◌%◌, ◌^◌, ◌<◌, ◌≤◌, List, [], ◌∷◌, ◌++◌, map, length, get_or, take, Ok, ap, ◌∙◌, arith}
use Rattle.std.proofs.Math.Nat.{pow-le-pow_right}
use lib.Bits.{bit_and, bit_or}
use lib.ListN.{length-map}
use Rattle.std.specs.Int.Digits.{number_from_digits, AllBelowBase}
use Rattle.std.specs.List.{prefix_len}
use Rattle.std.proofs.lemmas.Nat.{and_mask, or_shifted, shl_whole}
use Rattle.std.proofs.lemmas.Int.Digits.{number_push, number_lt}
use Rattle.std.proofs.lemmas.List.{length-take-le, map_push, take_more}
use Rattle.std.proofs.lemmas.List.Sums.{prefix_len_passes, prefix_len_stops, prefix_len-le-length}
use Rattle.std.proofs.lemmas.Bool.Decides.{nat_tests}
use Rattle.std.proofs.lemmas.Grind.{common_steps}
use Rattle.base.specs.declared.refusal.Refusal.TheVariants.{Short, Wide}
use Rattle.numbers.specs.Numbers.{goes_on, value_of, refuse, read_groups}

pub value_push : (bs : List ℕ) (b : ℕ) → value_of (bs ++ (b ∷ [])) ≡ value_of bs * 128 + b % 128
value_push bs b = ap (number_from_digits 128) (map_push (λ x. x % 128) bs b) ∙ number_push 128 (map (λ x. x % 128) bs) (b % 128)

under_low : (bs : List ℕ) → AllBelowBase 128 (map (λ b. b % 128) bs)
under_low [] = tt
under_low (b ∷ bs) = (omega arith, under_low bs)

value_lt : (bs : List ℕ) → value_of bs < 128 ^ length bs
value_lt bs = rw (length-map bs (λ b. b % 128)) at (number_lt 128 (map (λ b. b % 128) bs) (under_low bs))

-- what the reader computes of a group
shift_in : (h b : ℕ) → h < 2 ^ 25 → b < 128 → bit_or (h * 128 % 2 ^ 32) b ≡ h * 128 + b
shift_in h b small low = rw (shl_whole h 25 7 32 small (omega arith)) (or_shifted h 7 b low)

-- the bytes before place k go on and make h, and b stands there
pub record Group (bs : List ℕ) (k h b : ℕ) : Type 0 where
  pub few : k ≤ 4
  pub on : k ≤ prefix_len goes_on bs
  pub high : h ≡ value_of (take k bs)
  pub inside : k < length bs
  pub byte : b ≡ get_or bs k 0

pub at_end : (bs : List ℕ) (place k : ℕ) → k ≤ 4 → k ≤ prefix_len goes_on bs → k ≡ length bs → read_groups place bs ≡ refuse Short place
unfolding read_groups
at_end bs place k few on over = let most = prefix_len-le-length goes_on bs in grind (arith, nat_tests)

module _ {bs : List ℕ} {k h b : ℕ} (g : Group bs k h b) where
  pub more : 128 ≤ b → k + 1 ≤ prefix_len goes_on bs
  more high = let s = prefix_len_stops goes_on bs 0 in grind (arith, nat_tests)

  pub at_fifth : (place : ℕ) → 128 ≤ b → k ≡ 4 → read_groups place bs ≡ refuse Wide place
  unfolding read_groups
  at_fifth place high full = let m = more high in grind (arith, nat_tests)

  -- before the fifth group the number so far is small, so that nothing is shifted out
  pub value_more : k < 4 → bit_or (h * 128 % 2 ^ 32) (bit_and b 127) ≡ value_of (take (k + 1) bs)
  value_more early =
      let small : value_of (take k bs) < 128 ^ k = rw (length-take-le k bs (omega (arith, g.inside))) at (value_lt (take k bs)) in
      let most = pow-le-pow_right {n = 128} (omega arith) {i = k} {j = 3} (omega arith) in
      rw (and_mask b 7, take_more bs k 0 g.inside, value_push) (shift_in h (b % 128) (omega (arith, g.high)) (omega arith) ∙ cc)

  last_lead : b < 128 → prefix_len goes_on bs ≡ k
  last_lead low = let p = prefix_len_passes goes_on bs k 0 in grind (arith, nat_tests)

  last_value : b < 128 → value_of (take (k + 1) bs) ≡ h * 128 + b
  last_value low = grind (arith, common_steps, value_push)

  pub at_wide : (place : ℕ) → b < 128 → 2 ^ 25 ≤ h → read_groups place bs ≡ refuse Wide place
  unfolding read_groups
  at_wide place low big = let v = last_value low in rw (last_lead low) (grind (arith, nat_tests))

  pub at_last : (place : ℕ) → b < 128 → h < 2 ^ 25 → read_groups place bs ≡ Ok (record { value = bit_or (h * 128 % 2 ^ 32) b; next = place + k + 1 })
  unfolding read_groups
  at_last place low small = let v = last_value low in rw (last_lead low, shift_in h b small low) (grind (arith, nat_tests))
