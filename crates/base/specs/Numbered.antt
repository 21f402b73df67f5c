-- Lists whose elements are taken with their numbers, from 0. To be believed for every promise on rows of boxes.
use Rattle.std.specs.Prelude.{ℕ, Bool, List, map}
use Rattle.std.specs.List.{list_any, enumerate_from}

-- what f makes of each element and its number
unfoldable pub by_number : {X Y : Type 0} → (ℕ → X → Y) → List X → List Y
by_number f xs = map (λ e. f e.0 e.1) (enumerate_from 0 xs)

-- whether some element with its number passes a test
unfoldable pub any_numbered : {X : Type 0} → (ℕ → X → Bool) → List X → Bool
any_numbered test xs = list_any (λ e. test e.0 e.1) (enumerate_from 0 xs)
