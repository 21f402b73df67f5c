-- Members of sets that tests make.
use Rattle.std.proofs.Common.{◌≡◌, ℕ, ◌^◌, ◌<◌, ◌≤◌, Bool, true, false, not, ◌&&◌, ◌||◌, eqb, leb, ltb, refl, ap, ◌∙◌, lt_of_lt_of_le, pow_mono, arith}
use Rattle.std.proofs.lemmas.Bool.Decides.{nat_tests}
use Rattle.sets.specs.declared.set.BoxSet.{BoxSet}
use Rattle.base.specs.Counts.{any, count}
use Rattle.sets.specs.Masks.{member, set_of}
use Rattle.sets.proofs.BitLemmas.{bit_high, bit-mask_of, mask_below, set_ext, set_is}
use Rattle.base.proofs.CountLemmas.{any_none, count_ext, count_le, count_none, count_within}

-- whether a number below 32 is in the set that a test makes
pub member_is : (P : ℕ → Bool) (s : BoxSet) → s ≡ set_of P → (i : ℕ) → i < 32 → member s i ≡ P i
member_is P s e i l = ap (λ z. member z i) e ∙ (let m = bit-mask_of P 32 i in grind (arith, nat_tests))

-- a set whose numbers below 32 all pass Q has no others
pub member_only : (P Q : ℕ → Bool) (s : BoxSet) → s ≡ set_of P → ((i : ℕ) → P i ≡ true → Q i ≡ true) → (i : ℕ) → Q i ≡ false → member s i ≡ false
member_only P Q s e f i q = ap (λ z. member z i) e ∙ (let m = bit-mask_of P 32 i in let h = f i in grind (arith, nat_tests))

module _ (s : BoxSet) (empty : s ≡ set_of (λ _. false)) where
  pub none_member : (i : ℕ) → member s i ≡ false
  none_member i = member_only (λ _. false) (λ _. false) s empty (λ _ e. e) i refl

  pub none_below : (n : ℕ) → s.mask < 2 ^ n
  none_below n = (mask_below n s.mask).1 (λ i _. none_member i)

  pub none_counted : count (member s) 32 ≡ 0
  none_counted = count_ext (member s) (λ _. false) 32 (λ i _. none_member i) ∙ count_none 32

-- a set that lacks no box of another counts no less
pub inside_counts : (a b : BoxSet) → any (λ i. member a i && not (member b i)) 32 ≡ false → count (member a) 32 ≤ count (member b) 32
inside_counts a b e = count_le (member a) (member b) 32 (λ k l m. let n = any_none (λ i. member a i && not (member b i)) 32 e k l in grind arith)

-- the boxes of one set that are not in another, by tests that the members pass
pub difference_of : (P Q : ℕ → Bool) (a b d : BoxSet) → d ≡ set_of (λ i. member a i && not (member b i))
    → ((i : ℕ) → i < 32 → member a i ≡ P i) → ((i : ℕ) → i < 32 → member b i ≡ Q i) → d ≡ set_of (λ i. P i && not (Q i))
difference_of P Q a b d e f g =
    e ∙ set_ext (λ i. member a i && not (member b i)) (λ i. P i && not (Q i)) (λ i l. let x = f i l in let y = g i l in grind arith)

-- a set within a company of at most 32 boxes is the set of those that pass a test which its members alone pass
pub set_kept : (n : ℕ) (s : BoxSet) (P : ℕ → Bool) → n ≤ 32 → s.mask < 2 ^ n → ((i : ℕ) → member s i ≡ P i) → s ≡ set_of P
set_kept n s P few h e = set_is P s.mask (lt_of_lt_of_le h (pow_mono few)) (λ i _. e i)

-- a box of a set within a company of n is one of the company
pub member_below : (n : ℕ) (s : BoxSet) (q : ℕ) → s.mask < 2 ^ n → member s q ≡ true → q < n
member_below n s q h m = let b = bit_high n s.mask q h in grind (arith, nat_tests)

-- a set that has no box from n on is within a company of n
pub none_beyond : (n : ℕ) (s : BoxSet) → s.mask < 2 ^ 32 → any (λ i. member s i && leb n i) 32 ≡ false → s.mask < 2 ^ n
none_beyond n s h e =
    (mask_below n s.mask).1 (λ i l.
    let f = any_none (λ k. member s k && leb n k) 32 e i in
    let b = bit_high 32 s.mask i h in
    grind (arith, nat_tests))

-- all of a company are of it
pub all_within : (n : ℕ) (s : BoxSet) → s ≡ set_of (λ i. ltb i n) → s.mask < 2 ^ n
all_within n s e = (mask_below n s.mask).1 (λ i l. member_only (λ k. ltb k n) (λ k. ltb k n) s e (λ k t. t) i (grind (arith, nat_tests)))

-- where box q enters a set
module _ (n q : ℕ) (s t : BoxSet) (few : n ≤ 32) (h : s.mask < 2 ^ n) (l : q < n) (e : t ≡ set_of (λ i. member s i || eqb i q)) where
  pub entering : (i : ℕ) → member t i ≡ (member s i || eqb i q)
  entering i =
      let m = bit-mask_of (λ k. member s k || eqb k q) 32 i in
      let r : member t i ≡ member (set_of (λ k. member s k || eqb k q)) i = ap (λ z. member z i) e in
      let b = bit_high n s.mask i h in
      grind (arith, nat_tests)

  pub entered_within : t.mask < 2 ^ n
  entered_within = (mask_below n t.mask).1 (λ i m. let b = bit_high n s.mask i h m in let r = entering i in grind (arith, nat_tests))

-- a set of the boxes of a company that pass: its members, and how many they are
module _ (n : ℕ) (P : ℕ → Bool) (few : n ≤ 32) where
  pub company_member : (i : ℕ) → member (set_of (λ q. ltb q n && P q)) i ≡ (ltb i n && P i)
  company_member i = let m = bit-mask_of (λ q. ltb q n && P q) 32 i in grind (arith, nat_tests)

  pub company_count : count (member (set_of (λ q. ltb q n && P q))) 32 ≡ count P n
  company_count = count_ext (member (set_of (λ q. ltb q n && P q))) (λ i. ltb i n && P i) 32 (λ i _. company_member i) ∙ count_within P n 32 few
