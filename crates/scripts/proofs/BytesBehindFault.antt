-- Bytes are judged as they are read: what stands behind a fault does not count, unless the bytes ended too soon.
use Rattle.std.proofs.Common.{◌≡◌, ℕ, zero, suc, ◌+◌, ◌<◌, ◌≤◌, ◌==◌, Bool, true, false, nat_lt, List, [], ◌∷◌, ◌++◌, length, get_or, slice_index, drop, Ok, Err, Result, sym, refl, ap, ◌∙◌, inl, inr, arith, length-append}
use lib.ListN.{get_or-append}
use lib.Seq.{take-append-le, drop-append-le}
use Rattle.std.specs.List.{prefix_len}
use Rattle.std.proofs.lemmas.List.{drop_all}
use Rattle.std.proofs.lemmas.List.Sums.{prefix_len-le-length}
use Rattle.std.proofs.lemmas.List.Folds.{prefix_len-append}
use Rattle.std.proofs.lemmas.Bool.{cases_lt}
use Rattle.std.proofs.lemmas.Bool.Decides.{nat_tests}
use Rattle.numbers.specs.declared.codec.NumberFault.{NumberFault}
use Rattle.base.specs.declared.refusal.Refusal.{Refusal}
use Rattle.base.specs.declared.refusal.Refusal.TheVariants.{Short, Surplus}
use Rattle.base.specs.Refusals.{unless}
use Rattle.numbers.specs.Numbers.{goes_on, refuse, read_groups, read_number}
use Rattle.numbers.proofs.ReadingStep.{at_end}
use Rattle.frames.specs.declared.fault.Field.{Field}
use Rattle.frames.specs.declared.fault.Field.TheVariants as field
use Rattle.base.specs.Results.{and_then, map_fault}
use Rattle.frames.specs.FrameFaults.{refusal_of, read_field}
use Rattle.frames.specs.Frames.{read_image, read_proposal}
use Rattle.scripts.specs.declared.entry.Entry.{Entry}
use Rattle.scripts.specs.ScriptLaws.{ScriptFaultStays}
use Rattle.scripts.specs.ScriptReading.{number_at, read_head, read_several, proposal_at, entry_at, read_entries, read_script}
use Rattle.proposals.specs.Kinds.{Kind}

-- one is what is read of some bytes, and the other is the same with more bytes behind them, unless they ended too soon
record Keeps {X D : Type 0} (up : D → Refusal) (one other : Result X D) : Type 0 where
  same : ((d : D) → one ≡ Err d → up d ≡ Short → ⊥) → other ≡ one

keeps_ok : {X D : Type 0} (up : D → Refusal) (x : X) (other : Result X D) → Keeps up (Ok x) other → other ≡ Ok x
keeps_ok up x other k = k.same (λ d is. absurd cc)

keeps_err : {X D : Type 0} (up : D → Refusal) (d : D) (other : Result X D) → Keeps up (Err d) other → (up d ≡ Short → ⊥) → other ≡ Err d
keeps_err up d other k long = k.same (λ c is short. let e : c ≡ d = cc in long (rw e at short))

keeps_refl : {X D : Type 0} (up : D → Refusal) (one : Result X D) → Keeps up one one
keeps_refl up one = record { same = λ _. refl }

keeps_map : {X D E : Type 0} (up : E → Refusal) (into : D → E) (one other : Result X D) → Keeps (λ d. up (into d)) one other
    → Keeps up (map_fault into one) (map_fault into other)
keeps_map up into (Ok x) other k = record { same = λ _. ap (map_fault into) (keeps_ok _ x other k) }
keeps_map up into (Err d) other k = record { same = λ long. ap (map_fault into) (keeps_err _ d other k (long (into d) refl)) }

-- where two parts stay so, the one after the other does
keeps_then : {X Y D E : Type 0} (up : E → Refusal) (into : D → E) (one other : Result X D) (go on : X → Result Y E)
    → Keeps (λ d. up (into d)) one other → ((x : X) → Keeps up (go x) (on x))
    → Keeps up (and_then into one go) (and_then into other on)
keeps_then up into (Ok x) other go on k each = record { same = λ long. ap (λ r. and_then into r on) (keeps_ok _ x other k) ∙ (each x).same long }
keeps_then up into (Err d) other go on k each = record { same = λ long. ap (λ r. and_then into r on) (keeps_err _ d other k (long (into d) refl)) }

-- where each stays so, all do
several_keep : {X : Type 0} (one other : List X → ℕ → Result (X × ℕ) Refusal)
    → ((before : List X) (place : ℕ) → Keeps (λ (e : Refusal). e) (one before place) (other before place))
    → (k place : ℕ) → Keeps (λ (e : Refusal). e) (read_several one k place) (read_several other k place)
unfolding read_several
several_keep one other each zero place = keeps_refl _ _
several_keep one other each (suc k) place = keeps_then _ _ _ _ _ _ (several_keep one other each k place) (λ before. keeps_then _ _ _ _ _ _ (each before.0 before.1) (λ next. keeps_refl _ _))

-- the faults of the other are the same, unless the bytes ended too soon
record Stops {X : Type 0} (one other : Result X Refusal) : Type 0 where
  same : (e : Refusal) → one ≡ Err e → (e ≡ Short → ⊥) → other ≡ Err e

stops_then : {X Y : Type 0} (one other : Result X Refusal) (go on : X → Result Y Refusal) → Keeps (λ (e : Refusal). e) one other
    → ((x : X) → Stops (go x) (on x))
    → Stops (and_then (λ (e : Refusal). e) one go) (and_then (λ (e : Refusal). e) other on)
stops_then (Ok x) other go on k each = record { same = λ e is long. ap (λ r. and_then (λ (f : Refusal). f) r on) (keeps_ok _ x other k) ∙ (each x).same e is long }
stops_then (Err d) other go on k each = record { same = λ e is long. let same : d ≡ e = cc in ap (λ r. and_then (λ (f : Refusal). f) r on) (keeps_err _ d other k (rw (← same) at long)) ∙ is }

-- ---- a number

groups_keep : (place : ℕ) (bs behind : List ℕ) → (prefix_len goes_on bs < 5 → prefix_len goes_on bs < length bs)
    → read_groups place (bs ++ behind) ≡ read_groups place bs
unfolding read_groups
groups_keep place bs behind long =
    let most = prefix_len-le-length goes_on bs in
    let lead = prefix_len-append goes_on bs behind in
    let all = length-append bs behind in
    elim (cases_lt (prefix_len goes_on bs) (length bs)) [
      | inl inside ↦
          let front = take-append-le (prefix_len goes_on bs + 1) bs behind (omega arith) in
          let same : prefix_len goes_on (bs ++ behind) ≡ prefix_len goes_on bs = grind (arith, nat_tests) in
          rw (same, front) (grind (arith, nat_tests))
      | inr over ↦ grind (arith, nat_tests)
    ]

short_there : (bytes : List ℕ) (place : ℕ) → length bytes ≤ place → read_number bytes place ≡ refuse Short place
unfolding read_groups
short_there bytes place over =
    let none : nat_lt place (length bytes) ≡ false = grind (arith, nat_tests) in
    rw (none, drop_all place bytes over) refl

unpadded_keeps : (bytes behind : List ℕ) (place : ℕ) → place < length bytes → (slice_index bytes place == 128) ≡ false
    → ((d : NumberFault) → read_number bytes place ≡ Err d → d.refusal ≡ Short → ⊥)
    → read_number (bytes ++ behind) place ≡ read_number bytes place
unpadded_keeps bytes behind place inside first long =
    let bs = drop place bytes in
    let split : drop place (bytes ++ behind) ≡ bs ++ behind = drop-append-le place bytes behind (omega (arith, inside)) in
    let same : get_or (bytes ++ behind) place 0 ≡ get_or bytes place 0 = get_or-append bytes behind 0 place inside in
    let there : read_number bytes place ≡ read_groups place bs = grind (arith, nat_tests) in
    let then : read_number (bytes ++ behind) place ≡ read_groups place (bs ++ behind) = rw (split, same, first) (grind (arith, nat_tests)) in
    let most = prefix_len-le-length goes_on bs in
    let on : prefix_len goes_on bs < 5 → prefix_len goes_on bs < length bs = λ few. elim (cases_lt (prefix_len goes_on bs) (length bs)) [
      | inl l ↦ l
      | inr over ↦ absurd (long _ (there ∙ at_end bs place (prefix_len goes_on bs) (omega (arith, few)) (omega arith) (omega (arith, over, most))) refl)
    ]
    in
    then ∙ groups_keep place bs behind on ∙ sym there

padded_keeps : (bytes behind : List ℕ) (place : ℕ) → place < length bytes → (slice_index bytes place == 128) ≡ true
    → read_number (bytes ++ behind) place ≡ read_number bytes place
padded_keeps bytes behind place inside first =
    let same : get_or (bytes ++ behind) place 0 ≡ get_or bytes place 0 = get_or-append bytes behind 0 place inside in
    let all = length-append bytes behind in
    let here : nat_lt place (length bytes) ≡ true = grind (arith, nat_tests) in
    let there : nat_lt place (length (bytes ++ behind)) ≡ true = grind (arith, nat_tests) in
    rw (same, first, here, there) refl

first_keeps : (bytes behind : List ℕ) (place : ℕ) → place < length bytes → (pad : Bool) → (slice_index bytes place == 128) ≡ pad
    → ((d : NumberFault) → read_number bytes place ≡ Err d → d.refusal ≡ Short → ⊥)
    → read_number (bytes ++ behind) place ≡ read_number bytes place
first_keeps bytes behind place inside true first long = padded_keeps bytes behind place inside first
first_keeps bytes behind place inside false first long = unpadded_keeps bytes behind place inside first long

number_keeps : (bytes behind : List ℕ) (place : ℕ)
    → Keeps (λ (e : NumberFault). e.refusal) (read_number bytes place) (read_number (bytes ++ behind) place)
number_keeps bytes behind place = elim (cases_lt place (length bytes)) [
  | inl inside ↦ record { same = λ long. first_keeps bytes behind place inside (slice_index bytes place == 128) refl long }
  | inr over ↦ record { same = λ long. absurd (long _ (short_there bytes place over) refl) }
]

-- ---- the parts of a script

module _ (bytes behind : List ℕ) where
  at_keeps : (place : ℕ) → Keeps (λ (e : Refusal). e) (number_at bytes place) (number_at (bytes ++ behind) place)
  at_keeps place = keeps_map _ _ _ _ (number_keeps bytes behind place)

  field_keeps : (f : Field) (place : ℕ) → Keeps (λ e. e.fault.refusal) (read_field f bytes place) (read_field f (bytes ++ behind) place)
  field_keeps f place = keeps_map _ _ _ _ (number_keeps bytes behind place)

  image_keeps : (size place : ℕ) → Keeps refusal_of (read_image bytes size place) (read_image (bytes ++ behind) size place)
  unfolding read_image
  image_keeps zero place = keeps_refl _ _
  image_keeps (suc size) place = keeps_then _ _ _ _ _ _ (keeps_map _ _ _ _ (field_keeps field.Image place)) (λ d. keeps_then _ _ _ _ _ _ (image_keeps size d.next) (λ rest. keeps_refl _ _))

  head_keeps : (places : ℕ) → Keeps (λ (e : Refusal). e) (read_head places bytes) (read_head places (bytes ++ behind))
  unfolding read_head
  head_keeps places = keeps_then _ _ _ _ _ _ (at_keeps 0) (λ n. keeps_then _ _ _ _ _ _ (at_keeps n.next) (λ t. keeps_refl _ _))

  proposal_keeps : {K : Type 0} (kind : Kind K) (place : ℕ)
      → Keeps (λ (e : Refusal). e) (proposal_at kind bytes place) (proposal_at kind (bytes ++ behind) place)
  unfolding read_proposal
  proposal_keeps kind place = keeps_map _ _ _ _ (keeps_then _ _ _ _ _ _ (image_keeps kind.size place) (λ found. keeps_refl _ _))

  entry_keeps : (n t : ℕ) (before : List Entry) (place : ℕ)
      → Keeps (λ (e : Refusal). e) (entry_at n t bytes before place) (entry_at n t (bytes ++ behind) before place)
  unfolding entry_at
  entry_keeps n t before place =
      keeps_then _ _ _ _ _ _ (at_keeps place) (λ r.
      keeps_then _ _ _ _ _ _ (keeps_refl _ _) (λ _.
      keeps_then _ _ _ _ _ _ (at_keeps r.next) (λ q.
      keeps_then _ _ _ _ _ _ (keeps_refl _ _) (λ _.
      keeps_then _ _ _ _ _ _ (at_keeps q.next) (λ s. keeps_refl _ _)))))

  entries_keep : (n t place : ℕ) → Keeps (λ (e : Refusal). e) (read_entries n t bytes place) (read_entries n t (bytes ++ behind) place)
  unfolding read_entries
  entries_keep n t place =
      keeps_then _ _ _ _ _ _ (at_keeps place) (λ count.
      keeps_then _ _ _ _ _ _ (keeps_refl _ _) (λ _. several_keep (entry_at n t bytes) (entry_at n t (bytes ++ behind)) (entry_keeps n t) count.value count.next))

  -- bytes that follow are refused last
  end_stops : {X : Type 0} (end : ℕ) (x : X)
      → Stops (unless ((nat_lt end (length bytes), Surplus) ∷ []) x) (unless ((nat_lt end (length (bytes ++ behind)), Surplus) ∷ []) x)
  end_stops end x = record {
    same = λ e is _. elim (cases_lt end (length bytes)) [
      | inl more ↦ let all = length-append bytes behind in grind (arith, nat_tests)
      | inr over ↦ absurd (grind (arith, nat_tests))
    ];
  }

module _ {K : Type 0} (kind : Kind K) where
  pub script_fault : ScriptFaultStays kind
  unfolding read_script
  script_fault places bytes behind e is long =
      let whole =
      stops_then _ _ _ _ (head_keeps bytes behind places) (λ head.
      stops_then _ _ _ _ (several_keep _ _ (λ _ place. proposal_keeps bytes behind kind place) head.n head.next) (λ proposals.
      stops_then _ _ _ _ (entries_keep bytes behind head.n head.t proposals.1) (λ entries. end_stops bytes behind entries.1 _)))
      in
      whole.same e is long
