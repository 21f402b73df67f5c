-- Lists whose elements are taken with their numbers.
use Rattle.std.proofs.Common.{◌≡◌, ℕ, zero, suc, ◌+◌, ◌<◌, Bool, true, false, cond, ◌||◌, eqb, ltb, List, [], ◌∷◌, length, map, set, Some, None, option_map, sym, refl, ap, ◌∙◌, arith}
use Rattle.std.specs.List.{list_any, enumerate_from, slice_get, range_with_len}
use Rattle.std.proofs.lemmas.Bool.{both_ways}
use Rattle.std.proofs.lemmas.Bool.Decides.{nat_tests}
use Rattle.std.proofs.lemmas.List.{length-map}
use Rattle.std.proofs.lemmas.List.FromFn.{length-enumerate_from}
use Rattle.base.specs.Numbered.{by_number, any_numbered}

-- two lists with the same at each place are the same
pub list_ext : {X : Type 0} (xs ys : List X) → ((p : ℕ) → slice_get xs p ≡ slice_get ys p) → xs ≡ ys
list_ext [] [] e = refl
list_ext [] (y ∷ ys) e = absurd (let a = e 0 in grind arith)
list_ext (x ∷ xs) [] e = absurd (let a = e 0 in grind arith)
list_ext (x ∷ xs) (y ∷ ys) e = let a : Some x ≡ Some y = e 0 in let b : x ≡ y = cc in λ j. b j ∷ list_ext xs ys (λ p. e (suc p)) j

-- below the length there is one
pub get_some : {X : Type 0} (xs : List X) (p : ℕ) → p < length xs → (x : X) × (slice_get xs p ≡ Some x)
get_some [] p l = absurd (omega arith)
get_some (x ∷ xs) zero l = (x, refl)
get_some (x ∷ xs) (suc p) l = get_some xs p (omega arith)

-- a list with one element set
pub get-set : {X : Type 0} (xs : List X) (p k : ℕ) (x : X) → p < length xs → slice_get (set xs p x) k ≡ cond (eqb k p) (Some x) (slice_get xs k)
get-set [] p k x l = absurd (omega arith)
get-set (y ∷ ys) zero zero x l = ap (λ t. cond t (Some x) (Some y)) (let e : true ≡ eqb 0 0 = grind (arith, nat_tests) in e)
get-set (y ∷ ys) zero (suc k) x l = ap (λ t. cond t (Some x) (slice_get ys k)) (let e : false ≡ eqb (suc k) 0 = grind (arith, nat_tests) in e)
get-set (y ∷ ys) (suc p) zero x l = ap (λ t. cond t (Some x) (Some y)) (let e : false ≡ eqb 0 (suc p) = grind (arith, nat_tests) in e)
get-set (y ∷ ys) (suc p) (suc k) x l =
    get-set ys p k x (omega arith) ∙ ap (λ t. cond t (Some x) (slice_get ys k)) (let e : eqb k p ≡ eqb (suc k) (suc p) = grind (arith, nat_tests) in e)

module _ {X : Type 0} (f : ℕ → X) where
  ranged : (a n p : ℕ) → slice_get (map f (range_with_len a n)) p ≡ cond (ltb p n) (Some (f (a + p))) None
  ranged a zero p = ap (λ t. cond t (Some (f (a + p))) None) (let e : false ≡ ltb p 0 = grind (arith, nat_tests) in e)
  ranged a (suc n) zero = ap (λ i. Some (f i)) (omega arith) ∙ ap (λ t. cond t (Some (f (a + 0))) None) (let e : true ≡ ltb 0 (suc n) = grind (arith, nat_tests) in e)
  ranged a (suc n) (suc p) =
      let same : a + 1 + p ≡ a + suc p = omega arith in
      let tests : ltb p n ≡ ltb (suc p) (suc n) = grind (arith, nat_tests) in
      ranged (a + 1) n p ∙ (λ j. cond (tests j) (Some (f (same j))) None)

  -- what f gives the numbers from 0 below n
  pub get-range : (n p : ℕ) → slice_get (map f (range_with_len 0 n)) p ≡ cond (ltb p n) (Some (f p)) None
  get-range n p = let same : 0 + p ≡ p = omega arith in ranged 0 n p ∙ ap (λ i. cond (ltb p n) (Some (f i)) None) same

module _ {X Y : Type 0} (f : ℕ → X → Y) where
  from : (k : ℕ) (xs : List X) (p : ℕ) → slice_get (map (λ e. f e.0 e.1) (enumerate_from k xs)) p ≡ option_map (f (k + p)) (slice_get xs p)
  from k [] p = refl
  from k (x ∷ xs) zero = let same : k ≡ k + 0 = omega arith in ap (λ i. Some (f i x)) same
  from k (x ∷ xs) (suc p) = let same : k + 1 + p ≡ k + suc p = omega arith in from (k + 1) xs p ∙ ap (λ i. option_map (f i) (slice_get xs p)) same

  pub get-by_number : (xs : List X) (p : ℕ) → slice_get (by_number f xs) p ≡ option_map (f p) (slice_get xs p)
  unfolding by_number
  get-by_number xs p = let same : 0 + p ≡ p = omega arith in from 0 xs p ∙ ap (λ i. option_map (f i) (slice_get xs p)) same

  pub length-by_number : (xs : List X) → length (by_number f xs) ≡ length xs
  unfolding by_number
  length-by_number xs = length-map (enumerate_from 0 xs) (λ e. f e.0 e.1) ∙ length-enumerate_from 0 xs

module _ {X Y : Type 0} (f : ℕ → X → Y) (P : ℕ → X → Bool) (Q : ℕ → Y → Bool) (same : (q : ℕ) (x : X) → Q q (f q x) ≡ P q x) where
  any_from_k : (k : ℕ) (xs : List X) → list_any (λ e. Q e.0 e.1) (enumerate_from k (map (λ e. f e.0 e.1) (enumerate_from k xs))) ≡ list_any (λ e. P e.0 e.1) (enumerate_from k xs)
  any_from_k k [] = refl
  any_from_k k (x ∷ xs) = (λ j. same k x j || any_from_k (k + 1) xs j)

  -- a test of what f makes of each
  pub any-by_number : (xs : List X) → any_numbered Q (by_number f xs) ≡ any_numbered P xs
  unfolding any_numbered by_number
  any-by_number xs = any_from_k 0 xs

module _ {X Y : Type 0} (f : ℕ → X → Y) (P : X → Bool) (Q : Y → Bool) (same : (q : ℕ) (x : X) → Q (f q x) ≡ P x) where
  each_from : (k : ℕ) (xs : List X) → list_any Q (map (λ e. f e.0 e.1) (enumerate_from k xs)) ≡ list_any P xs
  each_from k [] = refl
  each_from k (x ∷ xs) = (λ j. same k x j || each_from (k + 1) xs j)

  pub each-by_number : (xs : List X) → list_any Q (by_number f xs) ≡ list_any P xs
  unfolding by_number
  each-by_number xs = each_from 0 xs

module _ {X : Type 0} (P : ℕ → X → Bool) where
  none_from : (k : ℕ) (xs : List X) → list_any (λ e. P e.0 e.1) (enumerate_from k xs) ≡ false → (p : ℕ) (x : X) → slice_get xs p ≡ Some x → P (k + p) x ≡ false
  none_from k [] e p x at = absurd (grind arith)
  none_from k (y ∷ ys) e zero x at =
      let same : k ≡ k + 0 = omega arith in
      let here : y ≡ x = cc in
      let first : P k y ≡ false = grind arith in
      (λ j. P (sym same j) (sym here j)) ∙ first
  none_from k (y ∷ ys) e (suc p) x at =
      let same : k + suc p ≡ k + 1 + p = omega arith in
      ap (λ i. P i x) same ∙ none_from (k + 1) ys (grind arith) p x at

  -- where none passes, the one at a place does not
  pub none_numbered : (xs : List X) → any_numbered P xs ≡ false → (p : ℕ) (x : X) → slice_get xs p ≡ Some x → P p x ≡ false
  unfolding any_numbered
  none_numbered xs e p x at = let same : p ≡ 0 + p = omega arith in ap (λ i. P i x) same ∙ none_from 0 xs e p x at

  from_none : (k : ℕ) (xs : List X) → ((p : ℕ) (x : X) → slice_get xs p ≡ Some x → P (k + p) x ≡ false) → list_any (λ e. P e.0 e.1) (enumerate_from k xs) ≡ false
  from_none k [] none = refl
  from_none k (y ∷ ys) none =
      let same : k ≡ k + 0 = omega arith in
      let first : P k y ≡ false = ap (λ i. P i y) same ∙ none 0 y refl in
      let rest = from_none (k + 1) ys (λ p x at. let move : k + 1 + p ≡ k + suc p = omega arith in ap (λ i. P i x) move ∙ none (suc p) x at) in
      grind arith

  pub numbered_none : (xs : List X) → ((p : ℕ) (x : X) → slice_get xs p ≡ Some x → P p x ≡ false) → any_numbered P xs ≡ false
  unfolding any_numbered
  numbered_none xs none = from_none 0 xs (λ p x at. let same : 0 + p ≡ p = omega arith in ap (λ i. P i x) same ∙ none p x at)

  -- and one that passes is enough
  pub numbered_some : (xs : List X) (p : ℕ) (x : X) → slice_get xs p ≡ Some x → P p x ≡ true → any_numbered P xs ≡ true
  numbered_some xs p x at e = by (any_numbered P xs) refl
    where
      by : (t : Bool) → any_numbered P xs ≡ t → any_numbered P xs ≡ true
      by true is = is
      by false is = absurd (both_ways (P p x) (none_numbered xs is p x at) e)

-- none of a list passes a test
pub list_none : {X : Type 0} (P : X → Bool) (xs : List X) → list_any P xs ≡ false → (p : ℕ) (x : X) → slice_get xs p ≡ Some x → P x ≡ false
list_none P [] e p x at = absurd (grind arith)
list_none P (y ∷ ys) e zero x at = let here : y ≡ x = cc in ap P (sym here) ∙ grind arith
list_none P (y ∷ ys) e (suc p) x at = list_none P ys (grind arith) p x at

pub none_list : {X : Type 0} (P : X → Bool) (xs : List X) → ((p : ℕ) (x : X) → slice_get xs p ≡ Some x → P x ≡ false) → list_any P xs ≡ false
none_list P [] none = refl
none_list P (y ∷ ys) none = let first = none 0 y refl in let rest = none_list P ys (λ p x at. none (suc p) x at) in grind arith
