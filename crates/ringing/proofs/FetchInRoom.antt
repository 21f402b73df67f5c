-- What a box of the company hears of another, where there is room for a frame.
use Rattle.std.proofs.Common.{◌≡◌, ℕ, ◌<◌, ◌≤◌, ◌+◌, Bool, true, false, cond, ◌||◌, leb, ltb, List, [], ◌∷◌, ◌++◌, length, take, drop, Some, None, Ok, Err, Option, option_map, Result, unwrap_or, refl, sym, ap, ◌∙◌, arith}
use Rattle.std.specs.Bool.{⊤}
use Rattle.std.specs.Result.{result_map_both, result_unwrap_or}
use Rattle.std.proofs.lemmas.Bool.Decides.{nat_tests}
use Rattle.std.proofs.Math.Seq.{take-append_seam}
use Rattle.std.proofs.lemmas.List.{length-append, length-take-le}
use Rattle.base.specs.declared.refusal.Refusal.{Refusal}
use Rattle.base.specs.declared.refusal.Refusal.TheVariants as refusal
use Rattle.base.specs.Refusals.{unless}
use Rattle.frames.specs.Frames.{longest_frame}
use Rattle.wire.specs.WireState.{WireState, IsWellFormed, is_lost, heard_frame, on_fetch, fetch_answer, fetched_bytes}

module _ (m : WireState) (w : IsWellFormed m) (p q : ℕ) where
  -- what it hears is a frame that a wire takes
  heard_short : (f : List ℕ) → heard_frame m p q ≡ Some f → (1 ≤ length f) × (length f ≤ longest_frame)
  heard_short f e = by (is_lost m p q) (m.posted q) refl e
    where
      by : (t : Bool) (o : Option (List ℕ)) → m.posted q ≡ o → cond t None o ≡ Some f → (1 ≤ length f) × (length f ≤ longest_frame)
      by true o is e = absurd (grind arith)
      by false o is e = let k = w.posted q f (is ∙ e) in let y = k.1 in (grind (arith, nat_tests), grind (arith, nat_tests))

  fetching_is : (room : ℕ) → p < m.n → q < m.n → longest_frame ≤ room → on_fetch p q room m ≡ Ok (heard_frame m p q)
  unfolding on_fetch
  fetching_is room l k r = by (heard_frame m p q) heard_short
    where
      by : (o : Option (List ℕ)) → ((f : List ℕ) → o ≡ Some f → (1 ≤ length f) × (length f ≤ longest_frame))
          → unless ((leb m.n p || leb m.n q, refusal.Stranger) ∷ (ltb room (length (unwrap_or o [])), refusal.Narrow) ∷ []) o ≡ Ok o
      by None short = grind (arith, nat_tests)
      by (Some f) short = let s = short f refl in grind (arith, nat_tests)

  -- who is answered is of the company
  placed_by : (room : ℕ) (x : Option ℕ) → fetch_answer (on_fetch p q room m) ≡ Ok x → p < m.n
  unfolding on_fetch
  placed_by room x e = by (leb m.n p) refl
    where
      by : (t : Bool) → leb m.n p ≡ t → p < m.n
      by true is = absurd (grind arith)
      by false is = grind (arith, nat_tests)

  module _ (out new : List ℕ) (r : Result (Option ℕ) Refusal) (k : q < m.n) (room : longest_frame ≤ length out)
      (tells : r ≡ fetch_answer (on_fetch p q (length out) m)) (lays : new ≡ fetched_bytes (on_fetch p q (length out) m) out) where
    tells_so : p < m.n → r ≡ Ok (option_map length (heard_frame m p q))
    tells_so l = tells ∙ ap fetch_answer (fetching_is (length out) l k room)

    lays_so : p < m.n → new ≡ fetched_bytes (Ok (heard_frame m p q)) out
    lays_so l = lays ∙ ap (λ x. fetched_bytes x out) (fetching_is (length out) l k room)

    pub fetched_never : (e : Refusal) → p < m.n → r ≡ Err e → ⊥
    fetched_never e l is = let t = tells_so l in grind arith

    pub fetched_none : r ≡ Ok None → heard_frame m p q ≡ None
    fetched_none is = by (heard_frame m p q) (tells_so (placed_by (length out) None (sym tells ∙ is)))
      where
        by : (o : Option (List ℕ)) → r ≡ Ok (option_map length o) → o ≡ None
        by None t = refl
        by (Some f) t = absurd (grind arith)

    pub fetched_some : (a : ℕ) → r ≡ Ok (Some a) → (a ≤ length new) × (heard_frame m p q ≡ Some (take a new))
    fetched_some a is = let l = placed_by (length out) (Some a) (sym tells ∙ is) in by (heard_frame m p q) (tells_so l) (lays_so l) heard_short
      where
        by : (o : Option (List ℕ)) → r ≡ Ok (option_map length o) → new ≡ fetched_bytes (Ok o) out
            → ((f : List ℕ) → o ≡ Some f → (1 ≤ length f) × (length f ≤ longest_frame))
            → (a ≤ length new) × (o ≡ Some (take a new))
        by None t n short = absurd (grind arith)
        by (Some f) t n short =
            let s = short f refl in
            let same : length f ≡ a = cc in
            let is_new : new ≡ f ++ drop (length f) out = n in
            let len : length new ≡ length f + length (drop (length f) out) = ap length is_new ∙ length-append f (drop (length f) out) in
            (omega (arith, same, len), ap Some (sym (ap (λ x. take x new) (sym same) ∙ ap (take (length f)) is_new ∙ take-append_seam f (drop (length f) out))))

pub taken_length : {X : Type 0} (n : ℕ) (xs : List X) → n ≤ length xs → n ≡ length (take n xs)
taken_length n xs l = sym (length-take-le n xs l)

-- refusals by another name
pub told_again : {X E D : Type 0} (f : E → D) (r : Result X E)
    → result_map_both {U = ⊤} (λ _. tt) f r ≡ result_map_both (λ _. tt) (λ e. e) (result_map_both (λ n. n) f r)
told_again f (Ok x) = refl
told_again f (Err e) = refl

pub kept_again : {X E D : Type 0} (f : E → D) (r : Result X E) (x : X)
    → result_unwrap_or r x ≡ result_unwrap_or (result_map_both (λ n. n) f r) x
kept_again f (Ok y) x = refl
kept_again f (Err e) x = refl
