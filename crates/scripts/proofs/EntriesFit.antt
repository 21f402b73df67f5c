-- Entries that were read fit.
use Rattle.std.proofs.Common.{◌≡◌, ℕ, ◌≤◌, Bool, true, false, ◌==◌, List, [], ◌∷◌, ◌++◌, length, Ok, nat_le, nat_lt, refl, ap, arith}
use Rattle.std.specs.Bool.{⊤}
use Rattle.std.proofs.lemmas.Bool.{ltb-false}
use Rattle.std.proofs.lemmas.Bool.Decides.{nat_tests}
use Rattle.base.specs.declared.refusal.Refusal.{Refusal}
use Rattle.base.specs.declared.refusal.Refusal.TheVariants as refusal
use Rattle.base.specs.Refusals.{unless}
use Rattle.numbers.specs.declared.codec.Decoded.{Decoded}
use Rattle.sets.specs.Companies.{is_bad_lost}
use Rattle.frames.proofs.FrameRoundTrip.{next_inv}
use Rattle.scripts.specs.declared.entry.Entry.{Entry}
use Rattle.scripts.specs.Entries.{is_named, bad_round, entry_fits, entries_fit}
use Rattle.scripts.specs.ScriptReading.{number_at, unless_fault, read_several, entry_at, read_entries}
use Rattle.scripts.proofs.SeveralRead.{several_keeps, several_length}

named_push : (q : ℕ) (es : List Entry) (e : Entry) → is_named q es ≡ false → (e.number.0 == q) ≡ false → is_named q (es ++ (e ∷ [])) ≡ false
named_push q [] e none other = grind (arith, nat_tests)
named_push q (x ∷ es) e none other = let ih = named_push q es e in grind (arith, nat_tests)

fitting_push : (n t : ℕ) (es : List Entry) (e : Entry) → entries_fit n t es ≡ true → entry_fits n t e ≡ true
    → is_named e.number.0 es ≡ false → entries_fit n t (es ++ (e ∷ [])) ≡ true
unfolding entries_fit
fitting_push n t [] e all one new = grind (arith, nat_tests)
fitting_push n t (x ∷ es) e all one new =
    let ih = fitting_push n t es e in
    let other = named_push x.number.0 es e in
    grind (arith, nat_tests)

-- the entry e that was read at a place, where these stand before it, and the place behind it
pub record EntryRead (n t : ℕ) (bytes : List ℕ) (before : List Entry) (place : ℕ) (e : Entry) (end : ℕ) : Type 0 where
  pub round : Decoded
  pub number : Decoded
  pub lost : Decoded
  pub at_round : number_at bytes place ≡ Ok round
  pub at_number : number_at bytes round.next ≡ Ok number
  pub at_lost : number_at bytes number.next ≡ Ok lost
  pub is : record { round = record { 0 = round.value }; number = record { 0 = number.value }; lost = record { mask = lost.value } } ≡ e
  pub behind : lost.next ≡ end
  pub fit : entry_fits n t e ≡ true
  pub new : is_named e.number.0 before ≡ false

fit_of : (n t : ℕ) (e : Entry) → bad_round t e.round.0 ≡ false → nat_le n e.number.0 ≡ false → is_bad_lost n e.number.0 e.lost ≡ false
    → entry_fits n t e ≡ true
fit_of n t e round number lost = rw (round, number, lost) refl

passes_one : (b : Bool) (f : Refusal) (u : ⊤) → unless_fault ((b, f) ∷ []) ≡ Ok u → b ≡ false
passes_one true f u is = absurd cc
passes_one false f u is = refl

passes_two : (a b : Bool) (f e : Refusal) (u : ⊤) → unless_fault ((a, f) ∷ (b, e) ∷ []) ≡ Ok u → (a ≡ false) × (b ≡ false)
passes_two true b f e u is = absurd cc
passes_two false true f e u is = absurd cc
passes_two false false f e u is = (refl, refl)

pub unless_one : {X : Type 0} (b : Bool) (f : Refusal) (x y : X) → unless ((b, f) ∷ []) x ≡ Ok y → (b ≡ false) × (x ≡ y)
unless_one true f x y is = absurd cc
unless_one false f x y is = (refl, cc)

pub entry_read : (n t : ℕ) (bytes : List ℕ) (before : List Entry) (place : ℕ) (next : Entry × ℕ) → entry_at n t bytes before place ≡ Ok next
    → EntryRead n t bytes before place next.0 next.1
unfolding entry_at
entry_read n t bytes before place next is =
    let r = next_inv (λ (e : Refusal). e) (number_at bytes place) _ next is in
    let a = next_inv (λ (e : Refusal). e) _ _ next r.2 in
    let q = next_inv (λ (e : Refusal). e) (number_at bytes r.0.next) _ next a.2 in
    let b = next_inv (λ (e : Refusal). e) _ _ next q.2 in
    let s = next_inv (λ (e : Refusal). e) (number_at bytes q.0.next) _ next b.2 in
    let one = passes_one (bad_round t r.0.value) refusal.Entry a.0 a.1 in
    let two = passes_two (nat_le n q.0.value) (is_named q.0.value before) refusal.Stranger refusal.Entry b.0 b.1 in
    let end = unless_one (is_bad_lost n q.0.value (record { mask = s.0.value })) refusal.Set _ next s.2 in
    record {
      round = r.0;
      number = q.0;
      lost = s.0;
      at_round = r.1;
      at_number = q.1;
      at_lost = s.1;
      is = ap (λ x. x.0) end.1;
      behind = ap (λ x. x.1) end.1;
      fit = rw (← end.1) (fit_of n t _ one two.0 end.0);
      new = rw (← end.1) two.1;
    }

-- how entries that were read begin
pub entries_read : (n t : ℕ) (bytes : List ℕ) (place : ℕ) (all : List Entry × ℕ) → read_entries n t bytes place ≡ Ok all
    → (count : Decoded) × (number_at bytes place ≡ Ok count) × (count.value ≤ t)
    × (read_several (entry_at n t bytes) count.value count.next ≡ Ok all)
unfolding read_entries
entries_read n t bytes place all is =
    let count = next_inv (λ (e : Refusal). e) (number_at bytes place) _ all is in
    let few = next_inv (λ (e : Refusal). e) (unless_fault ((nat_lt t count.0.value, refusal.Entry) ∷ [])) _ all count.2 in
    (count.0, count.1, ltb-false t count.0.value (passes_one (nat_lt t count.0.value) refusal.Entry few.0 few.1), few.2)

pub read_entries_fit : (n t : ℕ) (bytes : List ℕ) (place : ℕ) (all : List Entry × ℕ) → read_entries n t bytes place ≡ Ok all
    → (entries_fit n t all.0 ≡ true) × (length all.0 ≤ t)
unfolding entries_fit
read_entries_fit n t bytes place all is =
    let r = entries_read n t bytes place all is in
    let fit = several_keeps (entry_at n t bytes) r.0.next (λ _ es _. entries_fit n t es ≡ true) refl
    (λ _ before at next on read. let e = entry_read n t bytes before at next read in fitting_push n t before next.0 on e.fit e.new) r.0.value all r.3
    in
    let long = several_length (entry_at n t bytes) r.0.next r.0.value all r.3 in
    (fit, omega (arith, long, r.2))
