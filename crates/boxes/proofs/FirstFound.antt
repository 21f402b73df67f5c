-- The first of a list that passes a test.
use Rattle.std.proofs.Common.{◌≡◌, Bool, true, false, cond, List, [], ◌∷◌, Some, None, Option, refl, ap, arith}
use Rattle.std.specs.List.{All, Contains, find}
use Rattle.std.proofs.lemmas.Bool.{both_ways}
use Rattle.std.proofs.lemmas.List.Elements.{All-nil, All-cons, All-contains, Contains-append_left, Contains-append_right, Contains-push}

module _ {X : Type 0} (P : X → Bool) where
  found : (xs : List X) (x : X) → find P xs ≡ Some x → Contains xs x × (P x ≡ true)
  found [] x e = absurd cc
  found (y ∷ more) x e = by (P y) refl e (found more x)
    where
      by : (t : Bool) → P y ≡ t → cond t (Some y) (find P more) ≡ Some x → (find P more ≡ Some x → Contains more x × (P x ≡ true)) → Contains (y ∷ more) x × (P x ≡ true)
      by true is e later = let same : y ≡ x = cc in rw (← same) (Contains-append_left (y ∷ []) more y (Contains-push [] y), is)
      by false is e later = let r = later e in (Contains-append_right (y ∷ []) more x r.0, r.1)

  none_found : (xs : List X) → find P xs ≡ None → All (λ x. P x ≡ false) xs
  none_found [] e = All-nil (λ x. P x ≡ false)
  none_found (y ∷ more) e = by (P y) refl e (none_found more)
    where
      by : (t : Bool) → P y ≡ t → cond t (Some y) (find P more) ≡ None → (find P more ≡ None → All (λ x. P x ≡ false) more) → All (λ x. P x ≡ false) (y ∷ more)
      by true is e later = absurd cc
      by false is e later = All-cons (λ x. P x ≡ false) y more is (later e)

  -- where none was found, none passes
  never : (xs : List X) (x : X) → find P xs ≡ None → Contains xs x → P x ≡ true → ⊥
  never xs x none has is = let n = All-contains (λ z. P z ≡ false) xs x (none_found xs none) has in grind arith

  pub find_only : (xs : List X) (x : X) → Contains xs x → P x ≡ true → ((y : X) → Contains xs y → P y ≡ true → y ≡ x) → find P xs ≡ Some x
  find_only xs x has is one = by (find P xs) refl
    where
      by : (o : Option X) → find P xs ≡ o → o ≡ Some x
      by None e = absurd (never xs x e has is)
      by (Some y) e = let r = found xs y e in ap Some (one y r.0 r.1)

  pub find_none : (xs : List X) → ((y : X) → Contains xs y → P y ≡ false) → find P xs ≡ None
  find_none xs none = by (find P xs) refl
    where
      by : (o : Option X) → find P xs ≡ o → o ≡ None
      by None e = refl
      by (Some y) e = let r = found xs y e in absurd (both_ways (P y) (none y r.0) r.1)

  -- where all that pass are the same, it does not depend on the order
  pub same_found : (xs ys : List X)
      → ((x : X) → (Contains xs x → Contains ys x) × (Contains ys x → Contains xs x))
      → ((x y : X) → Contains xs x → Contains xs y → P x ≡ true → P y ≡ true → x ≡ y)
      → find P xs ≡ find P ys
  same_found xs ys same one = by (find P xs) (find P ys) refl refl
    where
      by : (o p : Option X) → find P xs ≡ o → find P ys ≡ p → o ≡ p
      by None None e d = refl
      by None (Some y) e d = let r = found ys y d in absurd (never xs y e ((same y).1 r.0) r.1)
      by (Some x) None e d = let r = found xs x e in absurd (never ys x d ((same x).0 r.0) r.1)
      by (Some x) (Some y) e d =
          let r = found xs x e in
          let s = found ys y d in
          ap Some (one x y r.0 ((same y).1 s.0) r.1 s.1)
