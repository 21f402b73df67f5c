-- A script that is written reads back, and nothing else reads so.
use Rattle.std.proofs.Common.{◌≡◌, ℕ, ◌+◌, ◌<◌, ◌≤◌, ◌==◌, Bool, true, false, not, nat_le, nat_lt, List, [], ◌∷◌, ◌++◌, length, drop, Ok, Err, Result, sym, refl, ap, ◌∙◌, append_assoc, append-nil, arith, length-append}
use Rattle.std.specs.List.{flat_map, AllByRecursion}
use Rattle.std.proofs.lemmas.List.{drop_all, length-drop}
use Rattle.std.proofs.lemmas.Grind.{flat_map-append}
use Rattle.std.proofs.lemmas.Bool.Decides.{nat_tests}
use Rattle.std.proofs.lemmas.Bool.{ltb-false}
use Rattle.numbers.specs.declared.codec.Decoded.{Decoded}
use Rattle.numbers.specs.declared.codec.NumberFault.{NumberFault}
use Rattle.base.specs.declared.refusal.Refusal.{Refusal}
use Rattle.base.specs.declared.refusal.Refusal.TheVariants.{Surplus, Company, Row}
use Rattle.base.specs.Refusals.{unless}
use Rattle.numbers.specs.Numbers.{number_bytes, numbers_bytes, read_number}
use Rattle.numbers.proofs.SeveralWritten.{written_all-nil, written_all-cons, written_all-append}
use Rattle.numbers.proofs.NumberRoundTrip.{number_back, number_only}
use Rattle.sets.specs.Companies.{is_company, is_bad_lost}
use Rattle.base.specs.Results.{map_fault}
use Rattle.frames.specs.FrameFaults.{refusal_of}
use Rattle.frames.specs.Frames.{read_proposal}
use Rattle.frames.proofs.FrameRoundTrip.{next_inv, rest_of, fields_are, wide, proposal_judged, proposal_only}
use Rattle.scripts.specs.declared.entry.Entry.{Entry}
use Rattle.scripts.specs.declared.reader.Head.{Head}
use Rattle.scripts.specs.ScriptValues.{ScriptValues}
use Rattle.scripts.specs.Entries.{is_named, bad_round, entry_fits, entries_fit}
use Rattle.scripts.specs.ScriptReading.{number_at, read_head, read_several, proposal_at, entry_at, read_entries, read_script}
use Rattle.scripts.specs.ScriptLaws.{entry_numbers, script_numbers, MayBeRead, ScriptReadsOnly, ScriptReadsBack, ScriptRefusesSurplus}
use Rattle.scripts.proofs.HeadLimits.{head_is}
use Rattle.scripts.proofs.EntriesFit.{EntryRead, entry_read, entries_read, read_entries_fit, unless_one}
use Rattle.scripts.proofs.SeveralRead.{several_none, several_more, several_keeps, several_length}
use Rattle.proposals.specs.Kinds.{Kind, IsKind}
use Rattle.base.specs.Limits.{number_limit}

mapped : {X D E : Type 0} (up : D → E) (r : Result X D) (x : X) → map_fault up r ≡ Ok x → r ≡ Ok x
mapped up (Ok y) x is = cc
mapped up (Err e) x is = absurd cc

-- ---- things one after another

written_more : {X : Type 0} (numbers : X → List ℕ) (before : List X) (x : X)
    → numbers_bytes (flat_map numbers (before ++ (x ∷ []))) ≡ numbers_bytes (flat_map numbers before) ++ numbers_bytes (numbers x)
written_more numbers before x =
    let one : flat_map numbers (x ∷ []) ≡ numbers x = append-nil (numbers x) in
    rw (flat_map-append numbers before (x ∷ []), one) (written_all-append (flat_map numbers before) (numbers x))

-- each may stand behind those before it
abbrev AllMay : {X : Type 0} → (List X → X → Type 0) → List X → List X → Type 0
AllMay May before [] = Unit {0}
AllMay May before (x ∷ xs) = May before x × AllMay May (before ++ (x ∷ [])) xs

module _ {X : Type 0} (numbers : X → List ℕ) (one : List X → ℕ → Result (X × ℕ) Refusal) (bytes : List ℕ) where
  -- where each is its numbers, all are
  several_only : ((before : List X) (place : ℕ) (next : X × ℕ) → one before place ≡ Ok next
      → drop place bytes ≡ numbers_bytes (numbers next.0) ++ drop next.1 bytes)
      → (at k : ℕ) (all : List X × ℕ) → read_several one k at ≡ Ok all
      → drop at bytes ≡ numbers_bytes (flat_map numbers all.0) ++ drop all.1 bytes
  several_only each at k all is =
      several_keeps one at (λ _ xs place. drop at bytes ≡ numbers_bytes (flat_map numbers xs) ++ drop place bytes) (rw written_all-nil refl) (λ _ before place next on read.
      on ∙ rw (each before place next read, written_more numbers before next.0, append_assoc) refl) k all is

  module _ (May : List X → X → Type 0) where
    several_back : ((before : List X) (x : X) (place : ℕ) (behind : List ℕ) → May before x
        → drop place bytes ≡ numbers_bytes (numbers x) ++ behind
        → one before place ≡ Ok (x, place + length (numbers_bytes (numbers x))))
        → (before xs : List X) (at place : ℕ) (behind : List ℕ) → read_several one (length before) at ≡ Ok (before, place)
        → AllMay May before xs → drop place bytes ≡ numbers_bytes (flat_map numbers xs) ++ behind
        → read_several one (length (before ++ xs)) at ≡ Ok (before ++ xs, place + length (numbers_bytes (flat_map numbers xs)))
    several_back each before [] at place behind so may is =
        let e : place ≡ place + length (numbers_bytes []) = omega (arith, ap length written_all-nil) in
        rw append-nil (so ∙ ap (λ p. Ok (before, p)) e)
    several_back each before (x ∷ xs) at place behind so (may, mays) is =
        let here : drop place bytes ≡ numbers_bytes (numbers x) ++ (numbers_bytes (flat_map numbers xs) ++ behind) = is ∙ rw (written_all-append, append_assoc) refl in
        let more = several_more one at (length before) place before (x, place + length (numbers_bytes (numbers x))) so (each before x place _ may here) in
        let long : length before + 1 ≡ length (before ++ (x ∷ [])) = omega (arith, length-append before (x ∷ [])) in
        let rest = rest_of bytes place (numbers_bytes (numbers x)) (numbers_bytes (flat_map numbers xs) ++ behind) here in
        let on = several_back each (before ++ (x ∷ [])) xs at (place + length (numbers_bytes (numbers x))) behind (rw long at more) mays rest in
        let end : place + length (numbers_bytes (numbers x)) + length (numbers_bytes (flat_map numbers xs)) ≡ place + length (numbers_bytes (flat_map numbers (x ∷ xs))) =
        omega (arith, ap length (written_all-append (numbers x) (flat_map numbers xs)), length-append (numbers_bytes (numbers x)) (numbers_bytes (flat_map numbers xs)))
        in
        (rw append_assoc at on) ∙ ap (λ p. Ok (before ++ (x ∷ xs), p)) end

-- ---- numbers

number_at_back : (bytes : List ℕ) (place n : ℕ) (behind : List ℕ) → n < number_limit → drop place bytes ≡ number_bytes n ++ behind
    → number_at bytes place ≡ Ok (record { value = n; next = place + length (number_bytes n) })
number_at_back bytes place n behind small is = rw (number_back n place bytes behind small is) refl

number_at_only : (bytes : List ℕ) (place : ℕ) (d : Decoded) → AllByRecursion (λ b. b < 256) bytes → number_at bytes place ≡ Ok d
    → (d.value < number_limit) × (drop place bytes ≡ number_bytes d.value ++ drop d.next bytes)
number_at_only bytes place d all is =
    let o = number_only bytes place d all (mapped (λ (e : NumberFault). e.refusal) (read_number bytes place) d is) in
    (o.0, o.2)

three_are : (r q m : ℕ) (behind : List ℕ)
    → numbers_bytes (r ∷ q ∷ m ∷ []) ++ behind ≡ number_bytes r ++ (number_bytes q ++ (number_bytes m ++ behind))
three_are r q m behind = fields_are r q m [] behind ∙ rw written_all-nil refl

-- ---- entries

-- e may stand behind those before it
record MayStand (n t : ℕ) (before : List Entry) (e : Entry) : Type 0 where
  fit : entry_fits n t e ≡ true
  new : is_named e.number.0 before ≡ false
  mask : e.lost.mask < number_limit

record Small (n t : ℕ) (e : Entry) : Type 0 where
  round : e.round.0 < number_limit
  number : e.number.0 < number_limit
  good_round : bad_round t e.round.0 ≡ false
  good_number : nat_le n e.number.0 ≡ false
  good_lost : is_bad_lost n e.number.0 e.lost ≡ false

small : (n t : ℕ) (e : Entry) → is_company n t ≡ true → entry_fits n t e ≡ true → Small n t e
small n t e kind fit = record {
  round = grind (arith, nat_tests);
  number = grind (arith, nat_tests);
  good_round = grind (arith, nat_tests);
  good_number = grind (arith, nat_tests);
  good_lost = grind (arith, nat_tests);
}

entry_back : (n t : ℕ) (bytes : List ℕ) → is_company n t ≡ true → (before : List Entry) (e : Entry) (place : ℕ) (behind : List ℕ)
    → MayStand n t before e
    → drop place bytes ≡ numbers_bytes (entry_numbers e) ++ behind
    → entry_at n t bytes before place ≡ Ok (e, place + length (numbers_bytes (entry_numbers e)))
unfolding entry_at
entry_back n t bytes kind before e place behind may is =
    let s = small n t e kind may.fit in
    let r = e.round.0 in
    let q = e.number.0 in
    let m = e.lost.mask in
    let is₀ = is ∙ three_are r q m behind in
    let is₁ = rest_of bytes place (number_bytes r) _ is₀ in
    let is₂ = rest_of bytes (place + length (number_bytes r)) (number_bytes q) _ is₁ in
    let a = number_at_back bytes place r _ s.round is₀ in
    let b = number_at_back bytes (place + length (number_bytes r)) q _ s.number is₁ in
    let d = number_at_back bytes (place + length (number_bytes r) + length (number_bytes q)) m _ may.mask is₂ in
    let long = ap length (three_are r q m []) in
    let end : place + length (number_bytes r) + length (number_bytes q) + length (number_bytes m) ≡ place + length (numbers_bytes (entry_numbers e)) =
    omega (arith, long, length-append (numbers_bytes (entry_numbers e)) [], length-append (number_bytes r) (number_bytes q ++ (number_bytes m ++ [])), length-append (number_bytes q) (number_bytes m ++ []), length-append (number_bytes m) [])
    in
    rw (a, s.good_round, b, s.good_number, may.new, d, s.good_lost) (ap (λ p. Ok (e, p)) end)

entry_only : (n t : ℕ) (bytes : List ℕ) (before : List Entry) (place : ℕ) (e : Entry) (end : ℕ) → AllByRecursion (λ b. b < 256) bytes
    → EntryRead n t bytes before place e end
    → (e.lost.mask < number_limit) × (drop place bytes ≡ numbers_bytes (entry_numbers e) ++ drop end bytes)
entry_only n t bytes before place e end all r =
    let one = number_at_only bytes place r.round all r.at_round in
    let two = number_at_only bytes r.round.next r.number all r.at_number in
    let three = number_at_only bytes r.number.next r.lost all r.at_lost in
    let chain = one.1 ∙ ap (λ l. number_bytes r.round.value ++ l) (two.1 ∙ ap (λ l. number_bytes r.number.value ++ l) three.1) ∙ sym (three_are r.round.value r.number.value r.lost.value (drop r.lost.next bytes)) in
    let mask = ap (λ x. x.lost.mask) r.is in
    (omega (arith, mask, three.0), chain ∙ ap (λ x. numbers_bytes (entry_numbers x) ++ drop r.lost.next bytes) r.is ∙ ap (λ k. numbers_bytes (entry_numbers e) ++ drop k bytes) r.behind)

all_push : {X : Type 0} (P : X → Type 0) (xs : List X) (x : X) → AllByRecursion P xs → P x → AllByRecursion P (xs ++ (x ∷ []))
all_push P [] x all one = (one, tt)
all_push P (y ∷ xs) x (here, all) one = (here, all_push P xs x all one)

-- the entries of a script may stand one behind the other
named_at : (q : ℕ) (before : List Entry) (e : Entry) (es : List Entry) → is_named q (before ++ (e ∷ es)) ≡ false → (e.number.0 == q) ≡ false
named_at q [] e es none = grind (arith, nat_tests)
named_at q (b ∷ before) e es none = let ih = named_at q before e es in grind (arith, nat_tests)

stands_at : (n t : ℕ) (before : List Entry) (e : Entry) (es : List Entry) → entries_fit n t (before ++ (e ∷ es)) ≡ true
    → (entry_fits n t e ≡ true) × (is_named e.number.0 before ≡ false)
unfolding entries_fit
stands_at n t [] e es fit = (grind (arith, nat_tests), refl)
stands_at n t (b ∷ before) e es fit =
    let ih = stands_at n t before e es (grind (arith, nat_tests)) in
    let other = named_at b.number.0 before e es in
    (ih.0, grind (arith, nat_tests))

entries_may : (n t : ℕ) (before es : List Entry) → entries_fit n t (before ++ es) ≡ true
    → AllByRecursion (λ e. e.lost.mask < number_limit) es
    → AllMay (MayStand n t) before es
entries_may n t before [] fit masks = tt
entries_may n t before (e ∷ es) fit (mask, masks) =
    let at = stands_at n t before e es fit in
    (record { fit = at.0; new = at.1; mask = mask }, entries_may n t (before ++ (e ∷ [])) es (rw append_assoc fit) masks)

-- ---- the head

unless_two : {X : Type 0} (a b : Bool) (f e : Refusal) (x y : X) → unless ((a, f) ∷ (b, e) ∷ []) x ≡ Ok y → x ≡ y
unless_two true b f e x y is = absurd cc
unless_two false true f e x y is = absurd cc
unless_two false false f e x y is = cc

head_only : (places : ℕ) (bytes : List ℕ) (h : Head) → AllByRecursion (λ b. b < 256) bytes → read_head places bytes ≡ Ok h
    → bytes ≡ number_bytes h.n ++ (number_bytes h.t ++ drop h.next bytes)
unfolding read_head
head_only places bytes h all is =
    let n = next_inv (λ (e : Refusal). e) (number_at bytes 0) _ h is in
    let t = next_inv (λ (e : Refusal). e) (number_at bytes n.0.next) _ h n.2 in
    let same : record { n = n.0.value; t = t.0.value; next = t.0.next } ≡ h = unless_two (not (is_company n.0.value t.0.value)) (nat_lt places n.0.value) Company Row _ h t.2 in
    let one = number_at_only bytes 0 n.0 all n.1 in
    let two = number_at_only bytes n.0.next t.0 all t.1 in
    rw (← same) (one.1 ∙ ap (λ l. number_bytes n.0.value ++ l) two.1)

head_back : (places n t : ℕ) (bytes behind : List ℕ) → is_company n t ≡ true → n ≤ places
    → bytes ≡ number_bytes n ++ (number_bytes t ++ behind)
    → read_head places bytes ≡ Ok (record { n = n; t = t; next = 0 + length (number_bytes n) + length (number_bytes t) })
unfolding read_head
head_back places n t bytes behind limits room is =
    let a = number_at_back bytes 0 n _ (grind (arith, nat_tests)) is in
    let b = number_at_back bytes (0 + length (number_bytes n)) t _ (grind (arith, nat_tests)) (rest_of bytes 0 (number_bytes n) _ is) in
    let enough : nat_lt places n ≡ false = grind (arith, nat_tests) in
    rw (a, b, limits, enough) refl

-- the numbers of a script, one after another
parts_are : (n t : ℕ) (images : List ℕ) (count : ℕ) (entries behind : List ℕ)
    → numbers_bytes (n ∷ t ∷ (images ++ (count ∷ entries))) ++ behind
    ≡ number_bytes n ++ (number_bytes t ++ (numbers_bytes images ++ (number_bytes count ++ (numbers_bytes entries ++ behind))))
parts_are n t images count entries behind = rw (written_all-cons, written_all-cons, written_all-append, written_all-cons) (simp append_assoc refl)

entries_only : (n t : ℕ) (bytes : List ℕ) (place : ℕ) (es : List Entry × ℕ) → AllByRecursion (λ b. b < 256) bytes
    → read_entries n t bytes place ≡ Ok es
    → AllByRecursion (λ e. e.lost.mask < number_limit) es.0
    × (drop place bytes ≡ number_bytes (length es.0) ++ (numbers_bytes (flat_map entry_numbers es.0) ++ drop es.1 bytes))
entries_only n t bytes place es all is =
    let r = entries_read n t bytes place es is in
    let count = r.0 in
    let each : (before : List Entry) (at : ℕ) (next : Entry × ℕ) → entry_at n t bytes before at ≡ Ok next → (next.0.lost.mask < number_limit) × (drop at bytes ≡ numbers_bytes (entry_numbers next.0) ++ drop next.1 bytes) =
    λ before at next read. entry_only n t bytes before at next.0 next.1 all (entry_read n t bytes before at next read)
    in
    let masks = several_keeps (entry_at n t bytes) count.next (λ _ xs _. AllByRecursion (λ e. e.lost.mask < number_limit) xs) tt
    (λ _ before at next on read. all_push (λ e. e.lost.mask < number_limit) before next.0 on (each before at next read).0) count.value es r.3
    in
    let behind = several_only entry_numbers (entry_at n t bytes) bytes (λ before at next read. (each before at next read).1) count.next count.value es r.3 in
    let long = several_length (entry_at n t bytes) count.next count.value es r.3 in
    let one = number_at_only bytes place count all r.1 in
    (masks, rw long (one.1 ∙ ap (λ l. number_bytes count.value ++ l) behind))

entries_back : (n t : ℕ) (bytes : List ℕ) (place : ℕ) (es : List Entry) (behind : List ℕ) → is_company n t ≡ true
    → entries_fit n t es ≡ true → length es ≤ t → AllByRecursion (λ e. e.lost.mask < number_limit) es
    → drop place bytes ≡ number_bytes (length es) ++ (numbers_bytes (flat_map entry_numbers es) ++ behind)
    → read_entries n t bytes place ≡ Ok (es, place + length (number_bytes (length es)) + length (numbers_bytes (flat_map entry_numbers es)))
unfolding read_entries
entries_back n t bytes place es behind limits fit few masks is =
    let a = number_at_back bytes place (length es) _ (grind (arith, nat_tests)) is in
    let enough : nat_lt t (length es) ≡ false = grind (arith, nat_tests) in
    let from = place + length (number_bytes (length es)) in
    let s = several_back entry_numbers (entry_at n t bytes) bytes (MayStand n t) (entry_back n t bytes limits) [] es from from behind (several_none (entry_at n t bytes) from) (entries_may n t [] es fit masks) (rest_of bytes place (number_bytes (length es)) _ is) in
    rw (a, enough, s) refl

any_may : {X : Type 0} (before xs : List X) → AllMay (λ _ _. Unit {0}) before xs
any_may before [] = tt
any_may before (x ∷ xs) = (tt, any_may (before ++ (x ∷ [])) xs)

module _ {K : Type 0} (kind : Kind K) where
  module _ (laws : IsKind kind) where
    image_at : (bytes : List ℕ) (place : ℕ) (next : K × ℕ) → AllByRecursion (λ b. b < 256) bytes → proposal_at kind bytes place ≡ Ok next
        → drop place bytes ≡ numbers_bytes (kind.image next.0) ++ drop next.1 bytes
    image_at bytes place next all is = proposal_only kind laws bytes place next all (mapped refusal_of (read_proposal kind bytes place) next is)

    parts_only : (places : ℕ) (bytes : List ℕ) (head : Head) (ps : List K × ℕ) (es : List Entry × ℕ) → AllByRecursion (λ b. b < 256) bytes
        → read_head places bytes ≡ Ok head
        → read_several (λ _. proposal_at kind bytes) head.n head.next ≡ Ok ps → read_entries head.n head.t bytes ps.1 ≡ Ok es
        → length bytes ≤ es.1
        → MayBeRead places (record { n = head.n; t = head.t; entries = es.0 }) ps.0
        × (bytes ≡ numbers_bytes (script_numbers kind (record { n = head.n; t = head.t; entries = es.0 }) ps.0))
    parts_only places bytes head ps es all h p q over =
        let is = head_is places bytes head h in
        let fit = read_entries_fit head.n head.t bytes ps.1 es q in
        let e = entries_only head.n head.t bytes ps.1 es all q in
        let i = several_only kind.image (λ _. proposal_at kind bytes) bytes (λ _ at next read. image_at bytes at next all read) head.next head.n ps p in
        let images = flat_map kind.image ps.0 in
        let numbers = flat_map entry_numbers es.0 in
        let end = ap (λ l. number_bytes (length es.0) ++ (numbers_bytes numbers ++ l)) (drop_all es.1 bytes over) in
        let chain = head_only places bytes head all h ∙ ap (λ l. number_bytes head.n ++ (number_bytes head.t ++ l)) (i ∙ ap (λ l. numbers_bytes images ++ l) (e.1 ∙ end)) in (
          record { proper = record { size = is.size; few = fit.1; fitting = fit.0 }; whole = several_length (λ _. proposal_at kind bytes) head.next head.n ps p; room = is.room; masks = e.0 },
          chain ∙ sym (parts_are head.n head.t images (length es.0) numbers []) ∙ append-nil _,
        )

    all_only : (places : ℕ) (bytes : List ℕ) (all : ScriptValues × List K) → AllByRecursion (λ b. b < 256) bytes
        → read_script kind places bytes ≡ Ok all
        → MayBeRead places all.0 all.1 × (bytes ≡ numbers_bytes (script_numbers kind all.0 all.1))
    unfolding read_script
    all_only places bytes all byte is =
        let head = next_inv (λ (e : Refusal). e) (read_head places bytes) _ all is in
        let ps = next_inv (λ (e : Refusal). e) (read_several (λ _. proposal_at kind bytes) head.0.n head.0.next) _ all head.2 in
        let es = next_inv (λ (e : Refusal). e) (read_entries head.0.n head.0.t bytes ps.0.1) _ all ps.2 in
        let end = unless_one (nat_lt es.0.1 (length bytes)) Surplus _ all es.2 in
        rw (← end.1) (parts_only places bytes head.0 ps.0 es.0 byte head.1 ps.1 es.1 (ltb-false es.0.1 (length bytes) end.0))

    pub script_only : ScriptReadsOnly kind
    script_only places bytes s ps all is = all_only places bytes (s, ps) all is

  module _ (laws : IsKind kind) where
    image_back : (bytes : List ℕ) (x : K) (place : ℕ) (behind : List ℕ) → drop place bytes ≡ numbers_bytes (kind.image x) ++ behind
        → proposal_at kind bytes place ≡ Ok (x, place + length (numbers_bytes (kind.image x)))
    image_back bytes x place behind is = rw (proposal_judged kind bytes (kind.image x) behind place (wide (kind.image x) (laws.small x)) (laws.long x) is, laws.back x) refl

    -- a script that there may be is refused just if bytes stand behind it
    script_judged : (places : ℕ) (s : ScriptValues) (ps : List K) (behind : List ℕ) → MayBeRead places s ps
        → read_script kind places (numbers_bytes (script_numbers kind s ps) ++ behind)
        ≡ unless ((nat_lt 0 (length behind), Surplus) ∷ []) (s, ps)
    unfolding read_script
    script_judged places s ps behind st =
        let bytes = numbers_bytes (script_numbers kind s ps) ++ behind in
        let images = flat_map kind.image ps in
        let numbers = flat_map entry_numbers s.entries in
        let is₀ = parts_are s.n s.t images (length s.entries) numbers behind in
        let is₁ = rest_of bytes 0 (number_bytes s.n) _ is₀ in
        let is₂ = rest_of bytes (0 + length (number_bytes s.n)) (number_bytes s.t) _ is₁ in
        let from = 0 + length (number_bytes s.n) + length (number_bytes s.t) in
        let is₃ = rest_of bytes from (numbers_bytes images) _ is₂ in
        let is₄ = rest_of bytes (from + length (numbers_bytes images)) (number_bytes (length s.entries)) _ is₃ in
        let end = from + length (numbers_bytes images) + length (number_bytes (length s.entries)) + length (numbers_bytes numbers) in
        let rest : drop end bytes ≡ behind = rest_of bytes (from + length (numbers_bytes images) + length (number_bytes (length s.entries))) (numbers_bytes numbers) behind is₄ in
        let more : nat_lt end (length bytes) ≡ nat_lt 0 (length behind) = grind (arith, nat_tests, ap length rest, length-drop end bytes) in
        let h = head_back places s.n s.t bytes _ st.proper.size st.room is₀ in
        let one = λ (_ : List K). proposal_at kind bytes in
        let p = several_back kind.image one bytes (λ _ _. Unit {0}) (λ _ x place behind _ is. image_back bytes x place behind is) [] ps from from _ (several_none one from) (any_may [] ps) is₂ in
        let q = entries_back s.n s.t bytes (from + length (numbers_bytes images)) s.entries behind st.proper.size st.proper.fitting st.proper.few st.masks is₃ in
        rw (h, rw st.whole at p, q, more) refl

    pub script_back : ScriptReadsBack kind
    script_back places s ps st = ap (read_script kind places) (sym (append-nil _)) ∙ script_judged places s ps [] st

    pub script_surplus : ScriptRefusesSurplus kind
    script_surplus places b behind s ps st =
        let some : nat_lt 0 (length (b ∷ behind)) ≡ true = grind (arith, nat_tests) in
        script_judged places s ps (b ∷ behind) st ∙ rw some refl
