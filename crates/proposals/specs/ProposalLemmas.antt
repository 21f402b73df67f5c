-- Pieces and calls with equal numbers are equal, since their ghost fields have one proof each; so both are kinds. For proofs only.
use Rattle.std.specs.Prelude.{◌≡◌, ◌≤◌, true, Some, refl}
use Rattle.std.proofs.Common.{ap, ◌∙◌, arith, rules}
use Rattle.std.proofs.lemmas.Bool.{leb-true}
use Rattle.std.proofs.lemmas.Bool.Decides.{nat_tests}
use mathlib.Core.HLevel.{is_prop→PathP}
use Rattle.std.proofs.Math.Bridge.{le_prop}
use Rattle.std.proofs.Math.Decide.{dec_le}
use Rattle.proposals.specs.declared.values.Piece.{Piece}
use Rattle.proposals.specs.declared.values.Call.{Call}
use Rattle.proposals.specs.Kinds.{IsKind}
use Rattle.proposals.specs.Pieces.{piece_kind, piece_by, piece_at, piece_leads}
use Rattle.proposals.specs.Calls.{call_kind, call_by, call_at, call_image, call_named, call_leads}

pub piece_path : (x y : Piece) → x.number ≡ y.number → x ≡ y
piece_path x y p = λ i. record { number = p i; most = is_prop→PathP (λ j. p j ≤ 16383) (λ j. le_prop) x.most y.most i }

pub call_path : (x y : Call) → x.rank ≡ y.rank → x.piece ≡ y.piece → x ≡ y
call_path x y p q = λ i. record {
  rank = p i;
  piece = q i;
  least = is_prop→PathP (λ j. 1 ≤ p j) (λ j. le_prop) x.least y.least i;
  most = is_prop→PathP (λ j. p j ≤ 9) (λ j. le_prop) x.most y.most i;
}

piece_by_lem : (x : Piece) (d : Dec (x.number ≤ 16383)) → piece_by x.number d ≡ Some x
piece_by_lem x (yes h) = ap Some (piece_path _ x refl)
piece_by_lem x (no h) = absurd (h x.most)

pub piece_at_lem : (x : Piece) → piece_at x.number ≡ Some x
piece_at_lem x = piece_by_lem x (dec_le x.number 16383)

call_by_lem : (x : Call) (a : Dec (1 ≤ x.rank)) (b : Dec (x.rank ≤ 9)) → call_by x.rank a b (Some x.piece) ≡ Some x
call_by_lem x (yes a) (yes b) = ap Some (call_path _ x refl refl)
call_by_lem x (yes a) (no b) = absurd (b x.most)
call_by_lem x (no a) b = absurd (a x.least)

pub call_at_lem : (x : Call) → call_at x.rank (Some x.piece) ≡ Some x
call_at_lem x = call_by_lem x (dec_le 1 x.rank) (dec_le x.rank 9)

-- the laws that take more than a search
pub call_back : (x : Call) → call_named (call_image x) ≡ Some x
call_back x = ap (call_at x.rank) (piece_at_lem x.piece) ∙ call_at_lem x

pub piece_antisymmetric : (x y : Piece) → piece_leads x y ≡ true → piece_leads y x ≡ true → x ≡ y
piece_antisymmetric x y a b = piece_path x y (omega (arith, leb-true x.number y.number a, leb-true y.number x.number b))

pub call_antisymmetric : (x y : Call) → call_leads x y ≡ true → call_leads y x ≡ true → x ≡ y
call_antisymmetric x y a b =
    let r : x.rank ≡ y.rank = grind (arith, nat_tests) in
    let p : x.piece.number ≡ y.piece.number = grind (arith, nat_tests) in
    call_path x y r (piece_path _ _ p)

-- the laws
pub piece_lawful : IsKind piece_kind
piece_lawful = record {
  sized = search rules;
  long = search rules;
  small = search rules;
  back = piece_at_lem;
  only = search rules;
  order = record { total = search rules; transitive = search rules; antisymmetric = piece_antisymmetric };
}

pub call_lawful : IsKind call_kind
call_lawful = record {
  sized = search rules;
  long = search rules;
  small = search rules;
  back = call_back;
  only = search rules;
  order = record { total = search rules; transitive = search rules; antisymmetric = call_antisymmetric };
}
