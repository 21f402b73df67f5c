-- Steps of reading a script.
use Rattle.std.proofs.Common.{◌≡◌, ℕ, ◌<◌, ◌≤◌, List, length, Ok, Err, Result, refl, arith}
use Rattle.std.specs.Result.{result_map_both}
use Rattle.std.proofs.lemmas.Bool.Decides.{nat_tests}
use Rattle.base.specs.declared.refusal.Refusal.{Refusal}
use Rattle.base.specs.declared.refusal.Refusal.TheVariants.{Surplus}
use Rattle.scripts.specs.declared.entry.Entry.{Entry}
use Rattle.scripts.specs.declared.reader.Head.{Head}
use Rattle.scripts.specs.ScriptReading.{read_several, proposal_at, read_head, read_entries, read_script}
use Rattle.proposals.specs.Kinds.{Kind}

-- where only the place behind is told, something was read
pub told_place : {X : Type 0} (r : Result (X × ℕ) Refusal) (next : ℕ) → result_map_both (λ x. x.1) (λ e. e) r ≡ Ok next
    → (x : X) × (r ≡ Ok (x, next))
told_place (Ok (x, place)) next is = (x, cc)
told_place (Err e) next is = absurd cc

pub told_refusal : {X : Type 0} (r : Result (X × ℕ) Refusal) (e : Refusal) → result_map_both (λ x. x.1) (λ e. e) r ≡ Err e → r ≡ Err e
told_refusal (Ok x) e is = absurd cc
told_refusal (Err f) e is = cc

pub read_once : {X : Type 0} (x y : X) → ◌≡◌ {A = Result X Refusal} (Ok x) (Ok y) → x ≡ y
read_once x y is = cc

pub never_both : {X : Type 0} (x : X) (e : Refusal) → ◌≡◌ {A = Result X Refusal} (Err e) (Ok x) → ⊥
never_both x e is = cc

module _ {K : Type 0} (kind : Kind K) (places : ℕ) (bytes : List ℕ) where
  pub head_stop : (e : Refusal) → read_head places bytes ≡ Err e → read_script kind places bytes ≡ Err e
  unfolding read_script
  head_stop e is = rw is refl

  module _ (head : Head) (h : read_head places bytes ≡ Ok head) where
    pub proposals_stop : (e : Refusal) → read_several (λ _. proposal_at kind bytes) head.n head.next ≡ Err e
        → read_script kind places bytes ≡ Err e
    unfolding read_script
    proposals_stop e is = rw (h, is) refl

    module _ (ps : List K) (next : ℕ) (p : read_several (λ _. proposal_at kind bytes) head.n head.next ≡ Ok (ps, next)) where
      pub entries_stop : (e : Refusal) → read_entries head.n head.t bytes next ≡ Err e → read_script kind places bytes ≡ Err e
      unfolding read_script
      entries_stop e is = rw (h, p, is) refl

      module _ (es : List Entry) (end : ℕ) (q : read_entries head.n head.t bytes next ≡ Ok (es, end)) where
        pub surplus_stop : end < length bytes → read_script kind places bytes ≡ Err Surplus
        unfolding read_script
        surplus_stop more = rw (h, p, q) (grind (arith, nat_tests))

        pub script_is : length bytes ≤ end → read_script kind places bytes ≡ Ok (record { n = head.n; t = head.t; entries = es }, ps)
        unfolding read_script
        script_is over = rw (h, p, q) (grind (arith, nat_tests))
