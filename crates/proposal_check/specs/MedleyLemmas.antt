-- The laws of a kind, for medleys. For proofs only.
use Rattle.std.specs.Prelude.{◌≡◌, ℕ, ◌<◌, Bool, true, false, ◌⊎◌, List, [], ◌∷◌, Some, None, Option, nat_lt, refl}
use Rattle.std.proofs.Common.{sym, ap, ◌∙◌, inl, inr, arith, rules}
use Rattle.std.proofs.Math.Bool.{Bool-set}
use Rattle.std.proofs.lemmas.Bool.Decides.{nat_tests}
use Rattle.std.proofs.lemmas.Slice.Eq.{bytes_eq-Decides}
use Rattle.std.specs.List.{AllByRecursion, list_all}
use Rattle.std.specs.Cmp.Lexicographic.{nat_list_cmp_total, texts_ties}
use Rattle.std.specs.Ordering.{is_le, is_gt, is_eq, ordering_reverse}
use Rattle.std.specs.declared.cmp.Ordering.{Ordering}
use Rattle.std.specs.declared.cmp.Ordering.TheVariants.{Less, Equal, Greater}
use Rattle.std.specs.Cmp.{upto}
use mathlib.Core.HLevel.{is_prop→PathP}
use Rattle.base.specs.Limits.{image_limit}
use Rattle.proposals.specs.Kinds.{IsKind}
use Rattle.proposal_check.specs.declared.values.Medley.{Medley}
use Rattle.proposal_check.specs.Tunes.{are_tunes}
use Rattle.proposal_check.specs.Medleys.{medley_by, medley_named, medley_kind}

-- medleys of equal numbers are equal, since a ghost field has one proof
pub medley_path : (x y : Medley) → x.tunes ≡ y.tunes → x ≡ y
medley_path x y p = λ i. record { tunes = p i; limits = is_prop→PathP (λ j. are_tunes (p j) ≡ true) (λ j. Bool-set (are_tunes (p j)) true) x.limits y.limits i }

back_by : (x : Medley) (b : Bool) (e : are_tunes x.tunes ≡ b) → medley_by x.tunes b e ≡ Some x
back_by x true e = ap Some (medley_path _ x refl)
back_by x false e = absurd (let held = x.limits in grind arith)

pub medley_back : (x : Medley) → medley_named x.tunes ≡ Some x
medley_back x = back_by x (are_tunes x.tunes) refl

abbrev tunes_of : Option Medley → List ℕ → List ℕ
tunes_of None ns = ns
tunes_of (Some x) ns = x.tunes

only_by : (ns : List ℕ) (x : Medley) (b : Bool) (e : are_tunes ns ≡ b) → medley_by ns b e ≡ Some x → x.tunes ≡ ns
only_by ns x true e s = sym (ap (λ o. tunes_of o ns) s)
only_by ns x false e s = absurd (grind arith)

all_small : (ns : List ℕ) → list_all (λ n. nat_lt n image_limit) ns ≡ true → AllByRecursion (λ n. n < image_limit) ns
all_small [] e = tt
all_small (n ∷ ns) e = (grind (arith, nat_tests), all_small ns (grind arith))

-- the order is that of std on lists of numbers
total_by : (r s : Ordering) → r ≡ ordering_reverse s → (is_le r ≡ true) ⊎ (is_le s ≡ true)
total_by r Less e = inr refl
total_by r Equal e = inr refl
total_by r Greater e = inl (ap is_le e)

not_gt : (r : Ordering) → is_le r ≡ true → is_gt r ≡ false
not_gt Less e = refl
not_gt Equal e = refl
not_gt Greater e = absurd (grind arith)

le : (r : Ordering) → is_gt r ≡ false → is_le r ≡ true
le Less e = refl
le Equal e = refl
le Greater e = absurd (grind arith)

ties : (r s : Ordering) → r ≡ ordering_reverse s → is_le r ≡ true → is_le s ≡ true → is_eq r ≡ true
ties r Equal e a b = ap is_eq e
ties r Less e a b = absurd (let c = sym (ap is_le e) ∙ a in grind arith)
ties r Greater e a b = absurd (grind arith)

pub medley_lawful : IsKind medley_kind
medley_lawful = record {
  sized = search rules;
  long = λ x. let held = x.limits in grind (arith, nat_tests);
  small = λ x. all_small x.tunes (let held = x.limits in grind arith);
  back = medley_back;
  only = λ ns x. only_by ns x (are_tunes ns) refl;
  order = record {
    total = λ x y. total_by _ _ (nat_list_cmp_total.antisymm x.tunes y.tunes);
    transitive = λ x y z a b. le _ (upto nat_list_cmp_total x.tunes y.tunes z.tunes (not_gt _ a) (not_gt _ b));
    antisymmetric = λ x y a b.
        let tied = ties _ _ (nat_list_cmp_total.antisymm x.tunes y.tunes) a b in
        medley_path x y ((bytes_eq-Decides x.tunes y.tunes).0 (texts_ties x.tunes y.tunes ∙ tied));
  };
}
