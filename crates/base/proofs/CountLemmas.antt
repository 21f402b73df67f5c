-- How many numbers below n pass a test (`count`), and whether one does (`any`).
use Rattle.std.proofs.Common.{◌≡◌, ℕ, zero, suc, ◌<◌, ◌≤◌, Bool, true, false, not, ◌&&◌, ◌||◌, eqb, ltb, ◌⊎◌, sym, refl, ◌∙◌, inl, inr, suc-le-suc, zero-le, le_of_suc-le-suc, not-suc-le-zero, le_antisymm, arith}
use Rattle.std.proofs.lemmas.Bool.{cases_Bool}
use Rattle.std.proofs.lemmas.Bool.Decides.{nat_tests}
use Rattle.base.specs.Counts.{count, any}
use Rattle.base.specs.CountLaws.{IsWithin, SubsetCountsNoMore, NestedAreSame}

-- ---- `count`, which takes the lowest number first

-- the test of the numbers after the first
abbrev next : (ℕ → Bool) → ℕ → Bool
next P k = P (suc k)

within_next : {P Q : ℕ → Bool} {n : ℕ} → IsWithin P Q (suc n) → IsWithin (next P) (next Q) n
within_next w k l = w (suc k) (suc-le-suc l)

pub count_none : (n : ℕ) → count (λ _. false) n ≡ 0
unfolding count
count_none zero = refl
count_none (suc n) = let ih = count_none n in omega arith

pub count_all : (n : ℕ) → count (λ _. true) n ≡ n
unfolding count
count_all zero = refl
count_all (suc n) = let ih = count_all n in omega arith

pub count_bound : (P : ℕ → Bool) (n : ℕ) → count P n ≤ n
unfolding count
count_bound P zero = zero-le
count_bound P (suc n) = let ih = count_bound (next P) n in grind arith

-- a subset counts no more
pub count_le : SubsetCountsNoMore
unfolding count
count_le P Q zero w = zero-le
count_le P Q (suc n) w =
    let ih = count_le (next P) (next Q) n (within_next w) in
    let z = w 0 (omega arith) in
    grind arith

pub count_ext : (P Q : ℕ → Bool) (n : ℕ) → ((k : ℕ) → k < n → P k ≡ Q k) → count P n ≡ count Q n
count_ext P Q n e = le_antisymm (count_le P Q n (λ k l p. sym (e k l) ∙ p)) (count_le Q P n (λ k l q. e k l ∙ q))

-- nested sets of equal count are equal
pub count_same : NestedAreSame
unfolding count
count_same P Q zero w e k l = absurd (not-suc-le-zero l)
count_same P Q (suc n) w e k l =
    let rest = count_le (next P) (next Q) n (within_next w) in
    let z = w 0 (omega arith) in
    at k l (count_same (next P) (next Q) n (within_next w) (grind arith)) (grind arith)
  where
    at : (k : ℕ) → k < suc n → ((j : ℕ) → j < n → P (suc j) ≡ Q (suc j)) → P 0 ≡ Q 0 → P k ≡ Q k
    at zero l above first = first
    at (suc k) l above first = above k (le_of_suc-le-suc l)

-- those below n, counted further on
pub count_within : (P : ℕ → Bool) (n m : ℕ) → n ≤ m → count (λ k. ltb k n && P k) m ≡ count P n
unfolding count
count_within P zero m l = count_ext (λ k. ltb k 0 && P k) (λ _. false) m (λ k _. grind (arith, nat_tests)) ∙ count_none m
count_within P (suc n) zero l = absurd (not-suc-le-zero l)
count_within P (suc n) (suc m) l =
    let ih = count_within (next P) n m (le_of_suc-le-suc l) in
    let rest = count_ext (λ k. ltb (suc k) (suc n) && P (suc k)) (λ k. ltb k n && P (suc k)) m (λ k _. grind (arith, nat_tests)) in
    grind (arith, nat_tests)

-- one number more that passes
pub count_more : (P : ℕ → Bool) (n q : ℕ) → q < n → P q ≡ false → count (λ k. P k || eqb k q) n ≡ suc (count P n)
unfolding count
count_more P zero q l e = absurd (not-suc-le-zero l)
count_more P (suc n) zero l e =
    let rest = count_ext (λ k. P (suc k) || eqb (suc k) zero) (next P) n (λ k _. grind (arith, nat_tests)) in
    grind (arith, nat_tests)
count_more P (suc n) (suc q) l e =
    let ih = count_more (next P) n q (le_of_suc-le-suc l) e in
    let rest = count_ext (λ k. P (suc k) || eqb (suc k) (suc q)) (λ k. P (suc k) || eqb k q) n (λ k _. grind (arith, nat_tests)) in
    grind (arith, nat_tests)

-- ---- `any`, which takes the highest number first

pub any_from : (P : ℕ → Bool) (n k : ℕ) → k < n → P k ≡ true → any P n ≡ true
unfolding any
any_from P zero k l p = absurd (not-suc-le-zero l)
any_from P (suc n) k l p = let ih : k < n → any P n ≡ true = λ m. any_from P n k m p in grind arith

-- if any passes, here is one
pub any_has : (P : ℕ → Bool) (n : ℕ) → any P n ≡ true → (k : ℕ) × (k < n) × (P k ≡ true)
unfolding any
any_has P zero e = absurd (grind arith)
any_has P (suc n) e = go (cases_Bool (P n)) (any_has P n)
  where
    go : (P n ≡ true) ⊎ (P n ≡ false) → (any P n ≡ true → (k : ℕ) × (k < n) × (P k ≡ true)) → (k : ℕ) × (k < suc n) × (P k ≡ true)
    go (inl t) ih = (n, omega arith, t)
    go (inr f) ih = let r = ih (grind arith) in (r.0, omega (arith, r.1), r.2)

pub any_none : (P : ℕ → Bool) (n : ℕ) → any P n ≡ false → (k : ℕ) → k < n → P k ≡ false
any_none P n e k l = let f : P k ≡ true → any P n ≡ true = any_from P n k l in grind arith

-- where fewer than n pass, here is one that does not
pub one_fails : (P : ℕ → Bool) (n : ℕ) → count P n < n → (k : ℕ) × (k < n) × (P k ≡ false)
one_fails P n few = by (cases_Bool (any (λ k. not (P k)) n))
  where
    by : (any (λ k. not (P k)) n ≡ true) ⊎ (any (λ k. not (P k)) n ≡ false) → (k : ℕ) × (k < n) × (P k ≡ false)
    by (inl t) = let r = any_has (λ k. not (P k)) n t in (r.0, r.1, let f = r.2 in grind arith)
    by (inr f) =
        let all : count P n ≡ count (λ _. true) n = count_ext P (λ _. true) n (λ k l. let g = any_none (λ k. not (P k)) n f k l in grind arith) in
        absurd (omega (arith, all, count_all n))

pub none_any : (P : ℕ → Bool) (n : ℕ) → ((k : ℕ) → k < n → P k ≡ false) → any P n ≡ false
unfolding any
none_any P zero f = refl
none_any P (suc n) f = let ih = none_any P n (λ k l. f k (omega arith)) in let z = f n (omega arith) in grind arith

-- a test that is true exactly where none passes
pub not-any : (P : ℕ → Bool) (n : ℕ) (r : Bool) → (r ≡ true → (k : ℕ) → k < n → P k ≡ false) → (((k : ℕ) → k < n → P k ≡ false) → r ≡ true) → r ≡ not (any P n)
not-any P n r f g =
    let a : r ≡ true → any P n ≡ false = λ t. none_any P n (f t) in
    let b : any P n ≡ false → r ≡ true = λ e. g (any_none P n e) in
    grind arith

pub any_ext : (P Q : ℕ → Bool) (n : ℕ) → ((k : ℕ) → k < n → P k ≡ Q k) → any P n ≡ any Q n
unfolding any
any_ext P Q zero e = refl
any_ext P Q (suc n) e = let ih = any_ext P Q n (λ k l. e k (omega arith)) in let z = e n (omega arith) in cc

pub any-or : (P Q : ℕ → Bool) (n : ℕ) → any (λ k. P k || Q k) n ≡ (any P n || any Q n)
unfolding any
any-or P Q zero = refl
any-or P Q (suc n) = let ih = any-or P Q n in grind arith

-- a test that only one number can pass
pub any_point : (q n : ℕ) (t : Bool) → q < n → any (λ k. eqb k q && t) n ≡ t
any_point q n true l = any_from (λ k. eqb k q && true) n q l (grind (arith, nat_tests))
any_point q n false l = none_any (λ k. eqb k q && false) n (λ k _. grind arith)

pub any-and : (t : Bool) (P : ℕ → Bool) (n : ℕ) → any (λ k. t && P k) n ≡ (t && any P n)
any-and true P n = any_ext (λ k. true && P k) P n (λ k _. grind arith)
any-and false P n = none_any (λ k. false && P k) n (λ k _. grind arith)
