-- Bytes that a call writes at the front of a slice, and what the call answers. To be believed for every promise on bytes.
use Rattle.std.specs.Prelude.{ℕ, if◌then◌else◌, List, ◌++◌, length, drop, Ok, Err, Result, nat_le}
use Rattle.std.specs.Result.{result_map_both}
use Rattle.base.specs.declared.refusal.Refusal.{Refusal}
use Rattle.base.specs.declared.refusal.Refusal.TheVariants.{Narrow}

-- the bytes xs, or that they are more than there is room for
abbrev pub if_room : List ℕ → ℕ → Result (List ℕ) Refusal
if_room xs room = if nat_le (length xs) room then Ok xs else Err Narrow

-- what a slice that held out holds after a call that gives some bytes or is refused: the bytes at its front and what stood behind them, or what it
-- held
abbrev pub front_after : Result (List ℕ) Refusal → List ℕ → List ℕ
front_after (Ok xs) out = xs ++ drop (length xs) out
front_after (Err e) out = out

-- what that call answers: how many bytes it wrote, or why it was refused
abbrev pub front_len : Result (List ℕ) Refusal → Result ℕ Refusal
front_len r = result_map_both length (λ e. e) r

-- what the slice holds after a call that writes xs, and refuses only where there is too little room
abbrev pub with_front : List ℕ → List ℕ → List ℕ
with_front xs out = front_after (if_room xs (length out)) out

-- and what that call answers
abbrev pub len_if_room : List ℕ → List ℕ → Result ℕ Refusal
len_if_room xs out = front_len (if_room xs (length out))
