-- Which of some proposals goes first. To be believed for every promise on estimates.
use Rattle.std.specs.Prelude.{◌≡◌, ℕ, zero, suc, ◌<◌, Bool, true, false, if◌then◌else◌, not, ◌&&◌, Some, None, Option, MatchOption}

-- x goes before y: x may go first and y may not
abbrev pub goes_before : {V : Type 0} → (V → V → Bool) → V → V → Bool
goes_before leads x y = leads x y && not (leads y x)

-- y against the one that goes first so far, which stays unless y goes before it
abbrev pub preferred : {V : Type 0} → (V → V → Bool) → Option V → V → V
preferred leads None y = y
preferred leads (Some x) y = if goes_before leads y x then y else x

-- of the values at the numbers below n that pass, the one that goes first
unfoldable pub foremost : {V : Type 0} → (V → V → Bool) → (ℕ → Bool) → (ℕ → V) → ℕ → Option V
foremost leads P v zero = None
foremost leads P v (suc n) =
    if P n then Some (preferred leads (foremost leads P v n) (v n))
    else foremost leads P v n

module _ {V : Type 0} (leads : V → V → Bool) (P : ℕ → Bool) (v : ℕ → V) (n : ℕ) where
  -- x is one of those values
  abbrev pub IsAmong : V → Type 0
  IsAmong x = (k : ℕ) × (k < n) × (P k ≡ true) × (x ≡ v k)

  -- x may go first of each of them
  abbrev pub LeadsAll : V → Type 0
  LeadsAll x = (k : ℕ) → k < n → P k ≡ true → leads x (v k) ≡ true

-- there is a foremost value unless none passes; it is among them and may go first of each
abbrev pub ForemostLeads : {V : Type 0} → (V → V → Bool) → Type 0
ForemostLeads {V} leads = (P : ℕ → Bool) (v : ℕ → V) (n : ℕ)
    → MatchOption (foremost leads P v n) ((k : ℕ) → k < n → P k ≡ false) (λ x. IsAmong leads P v n x × LeadsAll leads P v n x)

-- and no other is so
abbrev pub ForemostIsOnly : {V : Type 0} → (V → V → Bool) → Type 0
ForemostIsOnly {V} leads = (P : ℕ → Bool) (v : ℕ → V) (n : ℕ) (x : V)
    → IsAmong leads P v n x
    → LeadsAll leads P v n x
    → foremost leads P v n ≡ Some x
