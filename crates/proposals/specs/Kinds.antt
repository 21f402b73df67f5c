-- What a kind of proposal means, and the laws that it shows. To be believed for every promise on frames, boxes and ringings.
use Rattle.std.specs.Prelude.{◌≡◌, ℕ, ◌<◌, ◌≤◌, Bool, true, ◌⊎◌, List, length, Some, Option}
use Rattle.std.specs.List.{AllByRecursion}
use Rattle.base.specs.Limits.{image_limit}

-- how many numbers an image has; the image of a proposal; the proposal that has an image, if there is one; and whether of two proposals the first
-- may go first
pub record Kind (V : Type 0) : Type 0 where
  pub size : ℕ
  pub image : V → List ℕ
  pub named : List ℕ → Option V
  pub leads : V → V → Bool

-- an order by which of two one may go first: it is total and transitive, and two that may each go first are the same
pub record IsOrder {V : Type 0} (leads : V → V → Bool) : Type 0 where
  pub total : (x y : V) → (leads x y ≡ true) ⊎ (leads y x ≡ true)
  pub transitive : (x y z : V) → leads x y ≡ true → leads y z ≡ true → leads x z ≡ true
  pub antisymmetric : (x y : V) → leads x y ≡ true → leads y x ≡ true → x ≡ y

-- the laws: an image has 1 to 4 numbers, each below the limit; the image of a proposal is read as it, and no other numbers are; and the order
-- is one
pub record IsKind {V : Type 0} (kind : Kind V) : Type 0 where
  pub sized : (1 ≤ kind.size) × (kind.size ≤ 4)
  pub long : (x : V) → length (kind.image x) ≡ kind.size
  pub small : (x : V) → AllByRecursion (λ n. n < image_limit) (kind.image x)
  pub back : (x : V) → kind.named (kind.image x) ≡ Some x
  pub only : (ns : List ℕ) (x : V) → kind.named ns ≡ Some x → kind.image x ≡ ns
  pub order : IsOrder kind.leads
