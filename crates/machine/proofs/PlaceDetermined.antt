-- A place is determined by what stands there, and a row by its places.
use Rattle.std.proofs.Common.{◌≡◌, [], ◌∷◌, refl, ap, arith}
use Rattle.boxes.specs.BoxLaws.{BoxIsDetermined}
use Rattle.machine.specs.declared.place.Place.{Place}
use Rattle.machine.specs.declared.place.Place.TheVariants as place
use Rattle.machine.specs.Places.{place_state}
use Rattle.machine.specs.MachineLaws.{RowIsDetermined}

module _ {K : Type 0} (box : BoxIsDetermined K) where
  place_determined : (x y : Place K) → place_state x ≡ place_state y → x ≡ y
  place_determined (place.Resting a) (place.Resting b) e = ap (λ b. place.Resting b) (box a b cc)
  place_determined (place.Resting a) (place.Down r) e = absurd (grind arith)
  place_determined (place.Resting a) (place.Rung x) e = absurd (grind arith)
  place_determined (place.Down r) (place.Resting b) e = absurd (grind arith)
  place_determined (place.Down r) (place.Down q) e = cc
  place_determined (place.Down r) (place.Rung x) e = absurd (grind arith)
  place_determined (place.Rung x) (place.Resting b) e = absurd (grind arith)
  place_determined (place.Rung x) (place.Down r) e = absurd (grind arith)
  place_determined (place.Rung x) (place.Rung y) e = cc

  pub row_determined : RowIsDetermined K
  row_determined [] [] e = refl
  row_determined [] (y ∷ ys) e = absurd (grind arith)
  row_determined (x ∷ xs) [] e = absurd (grind arith)
  row_determined (x ∷ xs) (y ∷ ys) e =
      let first : x ≡ y = place_determined x y cc in
      let rest : xs ≡ ys = row_determined xs ys cc in
      λ j. first j ∷ rest j
