-- Calls that are refused for the first of some faults.
use Rattle.std.proofs.Common.{◌≡◌, ℕ, Bool, true, false, ◌||◌, List, [], ◌∷◌, Ok, Err, Result, sym, refl, ap, arith}
use Rattle.base.specs.declared.refusal.Refusal.{Refusal}
use Rattle.base.specs.Refusals.{unless}
use Rattle.frames.specs.declared.frame.Frame.{Frame}
use Rattle.base.specs.Results.{map_fault}
use Rattle.frames.specs.Frames.{read_frame}
use Rattle.boxes.specs.declared.fault.OwnFault.{OwnFault}
use Rattle.boxes.specs.declared.fault.BoxFault.TheVariants.{Own}
use Rattle.boxes.specs.declared.states.Held.{Held}
use Rattle.boxes.specs.declared.states.Notes.{Notes}
use Rattle.boxes.specs.BoxRounds.{round_fault, own_fault, frame_verdict, on_hear}
use Rattle.proposals.specs.Kinds.{Kind}

-- whether there is a fault
abbrev pub any_fault : List (Bool × Refusal) → Bool
any_fault [] = false
any_fault ((t, e) ∷ faults) = t || any_fault faults

pub unless_some : {X : Type 0} (faults : List (Bool × Refusal)) (x : X) → any_fault faults ≡ true → (e : Refusal) × (unless faults x ≡ Err e)
unless_some [] x h = absurd (grind arith)
unless_some ((true, e) ∷ faults) x h = (e, refl)
unless_some ((false, e) ∷ faults) x h = unless_some faults x h

pub unless_none : {X : Type 0} (faults : List (Bool × Refusal)) (x : X) → any_fault faults ≡ false → unless faults x ≡ Ok x
unless_none [] x h = refl
unless_none ((true, e) ∷ faults) x h = absurd (grind arith)
unless_none ((false, e) ∷ faults) x h = unless_none faults x h

-- what is passed up is the same fault as another
ok_from_mapped : {X D E : Type 0} (up : D → E) (r : Result X D) (x : X) → Ok x ≡ map_fault up r → r ≡ Ok x
ok_from_mapped up (Ok y) x e = let same : x ≡ y = cc in ap Ok (sym same)
ok_from_mapped up (Err d) x e = absurd cc

err_from_mapped : {X D E : Type 0} (up : D → E) (r : Result X D) (f : E) → Err f ≡ map_fault up r → (d : D) × (r ≡ Err d) × (f ≡ up d)
err_from_mapped up (Ok y) f e = absurd cc
err_from_mapped up (Err d) f e = (d, refl, cc)

-- a hearing that a fault of the box itself ends
pub refused_by_box : {K : Type 0} (kind : Kind K) (b : Held K) (m : Notes K) (bytes : List ℕ) (f : Frame K) (e : OwnFault)
    → Ok f ≡ map_fault (round_fault b) (read_frame kind bytes)
    → Err e ≡ map_fault (own_fault b) (frame_verdict b m f)
    → on_hear kind b m bytes ≡ Err (Own e)
unfolding on_hear
refused_by_box kind b m bytes f e read check =
    let r = ok_from_mapped (round_fault b) (read_frame kind bytes) f read in
    let j = err_from_mapped (own_fault b) (frame_verdict b m f) e check in
    rw (r, j.1) (ap (λ x. Err (Own x)) (sym j.2))
