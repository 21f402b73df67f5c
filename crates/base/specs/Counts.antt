-- How many of the numbers below n pass a test, and whether one does. To be believed for every promise that counts boxes.
use Rattle.std.specs.Prelude.{ℕ, zero, suc, ◌+◌, Bool, false, if◌then◌else◌, ◌||◌}

-- how many numbers below n pass
unfoldable pub count : (ℕ → Bool) → ℕ → ℕ
count P zero = 0
count P (suc n) = (if P 0 then 1 else 0) + count (λ k. P (suc k)) n

-- whether some number below n passes
unfoldable pub any : (ℕ → Bool) → ℕ → Bool
any P zero = false
any P (suc n) = P n || any P n
