-- The report of a script that is played on a new wire.
use Rattle.base.specs.Results.{refused_with}
use Rattle.base.specs.declared.refused.Refused.{Refused}
use Rattle.std.proofs.Common.{◌≡◌, ℕ, suc, ◌<◌, ◌≤◌, true, false, cond, leb, ltb, List, [], ◌∷◌, length, take, drop, get_or, Fits, w8, Some, None, Option, Ok, Err, Result, sym, refl, ap, ◌∙◌, subst, arith}
use Rattle.std.specs.List.{slice_get, AllByRecursion}
use Rattle.std.specs.Result.{result_map_both, IsOk}
use Rattle.std.proofs.lemmas.Bool.Decides.{nat_tests}
use Rattle.std.proofs.lemmas.List.{take_at, length-append}
use Rattle.std.proofs.lemmas.Option.{slice_get_within, get_or_from_slice_get}
use Rattle.base.specs.declared.refusal.Refusal.{Refusal}
use Rattle.base.specs.declared.refusal.Refusal.TheVariants.{Narrow}
use Rattle.base.specs.Buffers.{len_if_room, front_len, front_after}
use Rattle.sets.specs.Companies.{is_company}
use Rattle.base.specs.Limits.{most_company}
use Rattle.sets.specs.Masks.{member}
use Rattle.sets.proofs.MemberLemmas.{member_is, all_within}
use Rattle.base.specs.Results.{map_fault}
use Rattle.wire.specs.WireState as wire
use Rattle.wire.specs.WireState.{WireState, IsWellFormed, new_wire}
use Rattle.rule.specs.declared.falls.Fall.{Fall}
use Rattle.rule.specs.Histories.{History}
use Rattle.machine.specs.Places.{PlaceState}
use Rattle.machine.specs.State.{State}
use Rattle.machine.specs.MakeCall.{on_make, first_row}
use Rattle.machine.specs.RowCheck.{bad_row, is_over}
use Rattle.machine.specs.MachineLaws.{MakeIsAccepted}
use Rattle.promise.specs.StateByHistory.{row_by, state_by}
use Rattle.promise.proofs.StateByPlace.{row_length}
use Rattle.scripts.specs.ScriptValues.{ScriptValues, KeepsLimits}
use Rattle.scripts.specs.ScriptReading.{read_script, places_after}
use Rattle.scripts.specs.ScriptLaws.{MayBeRead}
use Rattle.reports.specs.Reports.{report_text, report_or_refusal}
use Rattle.reports.specs.ReportLaws.{longest_report, IsEarly, ReportLength}
use Rattle.script_play.specs.ScriptCalls.{falls_of, ringing_round_of, history_of, on_play}
use Rattle.script_play.specs.PlayLaws.{ScriptPlays, BytesPlay}
use Rattle.script_play.proofs.EntryLemmas.{so_far_before}
use Rattle.proposals.specs.Kinds.{Kind}

-- ---- a new wire

fresh_up : (n q : ℕ) → n ≤ 32 → q < n → (member (new_wire n).up q ≡ true) × ((new_wire n).lost q ≡ None)
fresh_up n q few l = (member_is (λ i. ltb i n) (new_wire n).up refl q (omega arith) ∙ (let k : ltb q n ≡ true = grind (arith, nat_tests) in k), refl)

fresh_formed : (n t : ℕ) → is_company n t ≡ true → IsWellFormed (new_wire n)
fresh_formed n t limits = record {
  size = grind arith;
  up_within = all_within n (new_wire n).up refl;
  falling = λ q s e. absurd (grind arith);
  posted = λ q f e. absurd (grind arith);
}

module _ (n a t : ℕ) (limits : is_company n t ≡ true) (same : a ≡ n) where
  pub made_is_new : (m : WireState) → Ok m ≡ wire.on_make a → m ≡ new_wire n
  unfolding wire.on_make
  made_is_new m is = let k = ap wire.on_make same in grind (arith, nat_tests)

  pub board_made : {B : Type 0} (meaning : B → WireState) (r : Result B Refusal) → result_map_both meaning (λ e. e) r ≡ wire.on_make a
      → IsOk r
  unfolding wire.on_make
  board_made meaning (Ok b) is = refl
  board_made meaning (Err e) is = absurd (let k = ap wire.on_make same in grind (arith, nat_tests))

-- ---- all of a list

same_some : {X : Type 0} (o : Option X) (x y : X) → o ≡ Some x → o ≡ Some y → x ≡ y
same_some o x y a b = cc

all_at : {X : Type 0} (P : X → Type 0) (xs : List X) → ((p : ℕ) (x : X) → slice_get xs p ≡ Some x → P x) → AllByRecursion P xs
all_at P [] at = tt
all_at P (x ∷ xs) at = (at 0 x refl, all_at P xs (λ p y e. at (suc p) y e))

module _ {K : Type 0} (kind : Kind K) (accepted : MakeIsAccepted K) (s : ScriptValues) (p : KeepsLimits s) (proposals : List K) (long : length proposals ≡ s.n) where
  few : s.n ≤ 32
  few = let limits = p.size in grind (arith, nat_tests)

  abbrev first : State K
  first = record { wire = new_wire s.n; t = s.t; closed = 0; row = first_row s.n s.t proposals }

  made : on_make s.n s.t (new_wire s.n) s.n proposals ≡ Ok first
  made = accepted s.n s.t (new_wire s.n) s.n proposals p.size refl long refl (λ q l. fresh_up s.n q few l)

  module _ (past_end : K) where
    abbrev h : History K
    h = history_of s proposals past_end

    -- what it is then with its row
    abbrev pub end : State K
    end = state_by kind h (λ _. None)

    pub plays_to : on_play kind s (new_wire s.n) s.n proposals past_end ≡ Ok end
    plays_to = ap (result_map_both (λ _. end) (λ e. e)) made

    module _ {W : Type 0} (w : W) (m : WireState) (places : ℕ) (new : m ≡ new_wire s.n) (whole : places ≡ s.n) where
      played_here : on_play kind s m places proposals past_end ≡ Ok end
      played_here = ap (λ x. on_play kind s x places proposals past_end) new ∙ ap (λ x. on_play kind s (new_wire s.n) x proposals past_end) whole ∙ plays_to

      pub ends_so : (x : State K) → Ok x ≡ map_fault (refused_with w) (on_play kind s m places proposals past_end) → x ≡ end
      ends_so x is = let e = ap (map_fault (refused_with w)) played_here in cc

      pub plays_on : {R : Type 0} (shown : R → State K) (r : Result R (Refused W Refusal))
          → result_map_both shown (λ e. e) r ≡ map_fault (refused_with w) (on_play kind s m places proposals past_end) → IsOk r
      plays_on shown (Ok x) is = refl
      plays_on shown (Err e) is = absurd (let k = ap (map_fault (refused_with w)) played_here in grind arith)

    module _ (plays : ScriptPlays kind) where
      rests : (bad_row end ≡ false) × (is_over end ≡ true)
      rests =
          let g = (plays s p proposals past_end).2 s.n (new_wire s.n) first (fresh_formed s.n s.t p.size) made in
          (ap bad_row (sym g.1) ∙ g.0.good, ap is_over (sym g.1) ∙ g.0.rings)

      early : (q : ℕ) (x : PlaceState K) → slice_get (row_by kind h) q ≡ Some x → IsEarly x
      early q x at = by (h.falls q) refl
        where
          inside : q < s.n
          inside = let l = slice_get_within (row_by kind h) q x at in let n = row_length kind h p.size in omega arith

          last : ringing_round_of s < 100
          last = let t = (plays s p proposals past_end).0.in_time.1 in let n = few in let limits = p.size in grind (arith, nat_tests)

          by : (o : Option Fall) → h.falls q ≡ o → IsEarly x
          by None e = subst IsEarly (same_some _ _ _ (((plays s p proposals past_end).1 q inside).1 e) at) last
          by (Some f) e =
              subst IsEarly (same_some _ _ _ (((plays s p proposals past_end).1 q inside).0 f e) at)
              (let l = so_far_before (ringing_round_of s) (falls_of s.entries q) f e in let m = last in omega arith)

      short : ReportLength kind → length (report_text kind (row_by kind h)) ≤ longest_report
      short shorter = shorter (row_by kind h) (let n = row_length kind h p.size in let f = few in omega arith) (all_at IsEarly (row_by kind h) early)

      pub reported : ReportLength kind → (room : ℕ) → longest_report ≤ room
          → report_or_refusal kind room end ≡ Ok (report_text kind (row_by kind h))
      unfolding report_or_refusal
      reported shorter room enough = let r = rests in let l = short shorter in grind (arith, nat_tests)

-- ---- what was read

pub bytes_small : (bytes : List ℕ) → ((i : ℕ) → Fits w8 (get_or bytes i 0)) → AllByRecursion (λ b. b < 256) bytes
bytes_small bytes fits = all_at (λ b. b < 256) bytes (λ p x at. let e = get_or_from_slice_get bytes p x 0 at in omega (arith, fits p))

-- the places of the proposals
pub laid_first : {K : Type 0} (r : Result (ScriptValues × List K) Refusal) (s : ScriptValues) (ps old new : List K) (n : ℕ) → r ≡ Ok (s, ps)
    → new ≡ places_after r old → length ps ≡ n → take n new ≡ ps
laid_first r s ps old new n is laid long = ap (take n) (laid ∙ ap (λ x. places_after x old) is) ∙ take_at ps (drop (length ps) old) n long

pub read_ok : {K : Type 0} (r : Result (ScriptValues × List K) Refusal) (s : ScriptValues) → Ok s ≡ result_map_both (λ x. x.0) (λ e. e) r
    → (ps : List K) × (r ≡ Ok (s, ps))
read_ok (Ok x) s is = (x.1, (let k : x.0 ≡ s = cc in λ i. Ok (k i, x.1)))
read_ok (Err e) s is = absurd (grind arith)

module _ {K : Type 0} (kind : Kind K) (accepted : MakeIsAccepted K) (plays : ScriptPlays kind) (shorter : ReportLength kind)
    (r : Result (ScriptValues × List K) Refusal) (s : ScriptValues) (p : KeepsLimits s) (ps : List K) (is : r ≡ Ok (s, ps)) (long : length ps ≡ s.n) (past_end : K) where
  pub report_is : (there : State K) → there ≡ state_by kind (history_of s ps past_end) (λ _. None) → (room : ℕ) → longest_report ≤ room
      → report_or_refusal kind room there ≡ result_map_both (λ x. report_text kind (row_by kind (history_of x.0 x.1 past_end))) (λ e. e) r
  report_is there at room enough =
      ap (report_or_refusal kind room) at ∙ reported kind accepted s p ps long past_end plays shorter room enough
      ∙ ap (result_map_both (λ x. report_text kind (row_by kind (history_of x.0 x.1 past_end))) (λ e. e)) (sym is)

pub line_fits : (text out : List ℕ) → length text ≤ length out → IsOk (len_if_room text out)
line_fits text out fits = (let k : leb (length text) (length out) ≡ true = grind (arith, nat_tests) in subst (λ b. IsOk (front_len (cond b (Ok text) (Err Narrow)))) (sym k) refl)

-- what was written is not longer than the bytes
pub told_fits : (r : Result (List ℕ) Refusal) (out new : List ℕ) (k : ℕ) → Ok k ≡ front_len r → new ≡ front_after r out
    → k ≤ length new
told_fits (Ok text) out new k is written = (let l = ap length written in let a = length-append text (drop (length text) out) in grind arith)
told_fits (Err e) out new k is written = absurd (grind arith)

-- ---- what comes of bytes

pub bytes_play : {K : Type 0} (kind : Kind K) (bytes : List ℕ) → MakeIsAccepted K → ScriptPlays kind
    → ((s : ScriptValues) (ps : List K) → read_script kind most_company bytes ≡ Ok (s, ps) → MayBeRead most_company s ps)
    → BytesPlay kind bytes
bytes_play kind bytes accepted plays stands s ps past_end is =
    let k = stands s ps is in
    let e = plays s k.proper ps past_end in
    let m = made kind accepted s k.proper ps k.whole in
    (e.0, e.1, (first kind accepted s k.proper ps k.whole, m, e.2 s.n (new_wire s.n) (first kind accepted s k.proper ps k.whole) (fresh_formed s.n s.t k.proper.size) m))
