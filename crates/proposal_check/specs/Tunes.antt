-- Which numbers are the four tunes of a medley. This crate is a check from outside: nothing of the product rests on it.
use Rattle.std.specs.Prelude.{ℕ, Bool, ◌&&◌, List, length, ◌==◌, nat_lt}
use Rattle.std.specs.List.{list_all}
use Rattle.base.specs.Limits.{image_limit}

abbrev pub are_tunes : List ℕ → Bool
are_tunes ns = length ns == 4 && list_all (λ n. nat_lt n image_limit) ns
