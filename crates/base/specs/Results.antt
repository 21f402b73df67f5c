-- What goes on after a result, and what a call that may be refused tells and leaves. To be believed for every promise.
use Rattle.std.specs.Prelude.{⊤, Ok, Err, Result}
use Rattle.std.specs.Result.{result_map_both, result_unwrap_or}
use Rattle.base.specs.declared.refusal.Refusal.{Refusal}
use Rattle.base.specs.declared.refused.Refused.{Refused}

-- to go on with what was read, or to end with its fault, as another where it comes up into a layer above
abbrev pub and_then : {X Y D E : Type 0} → (D → E) → Result X D → (X → Result Y E) → Result Y E
and_then up (Ok x) go = go x
and_then up (Err e) go = Err (up e)

-- the same where the fault stays as it is: `do` reads by it
infixl 10 ◌>>=◌
abbrev pub ◌>>=◌ : {X Y E : Type 0} → Result X E → (X → Result Y E) → Result Y E
r >>= go = and_then (λ e. e) r go

-- what was read, with its fault as another
abbrev pub map_fault : {X D E : Type 0} → (D → E) → Result X D → Result X E
map_fault up r = result_map_both (λ x. x) up r

-- what a call that may be refused tells: that it was accepted, or why it was not
abbrev pub answer : {X : Type 0} → Result X Refusal → Result ⊤ Refusal
answer r = result_map_both (λ _. tt) (λ e. e) r

-- what it leaves: what it makes of the state before, or that state where it is refused
abbrev pub or_kept : {S : Type 0} → S → Result S Refusal → S
or_kept s r = result_unwrap_or r s

-- a fault with the value that the refused call gives back
abbrev pub refused_with : {T E : Type 0} → T → E → Refused T E
refused_with x e = record { value = x; fault = e }
