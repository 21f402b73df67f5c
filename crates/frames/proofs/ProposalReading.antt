-- Steps of reading a proposal.
use Rattle.std.proofs.Common.{◌≡◌, ℕ, suc, ◌+◌, ◌-◌, ◌<◌, ◌≤◌, List, [], ◌∷◌, ◌++◌, Ok, Err, Result, refl, append_assoc, append-nil, arith}
use Rattle.numbers.specs.declared.codec.Decoded.{Decoded}
use Rattle.frames.specs.declared.fault.Field.TheVariants as field
use Rattle.frames.specs.declared.fault.FieldFault.{FieldFault}
use Rattle.frames.specs.declared.fault.FrameFault.{FrameFault}
use Rattle.frames.specs.declared.fault.FrameFault.TheVariants.{Number}
use Rattle.base.specs.Results.{and_then}
use Rattle.frames.specs.FrameFaults.{read_field}
use Rattle.frames.specs.Frames.{read_image, proposal_or_fault, read_proposal}
use Rattle.proposals.specs.Kinds.{Kind}

module _ {K : Type 0} (kind : Kind K) (bytes : List ℕ) (place : ℕ) where
  -- what the proposal at the place is read as, where the first i numbers of its image are ns and the next one is at another place
  abbrev pub read_on : (ns : List ℕ) (i at : ℕ) → Result (K × ℕ) FrameFault
  read_on ns i at = and_then (λ e. e) (read_image bytes (kind.size - i) at) (λ rest. proposal_or_fault place (kind.named (ns ++ rest.0)) rest.1)

  pub read_on-none : read_proposal kind bytes place ≡ read_on [] 0 place
  unfolding read_proposal
  read_on-none = let e : kind.size - 0 ≡ kind.size = omega arith in rw e refl

  read_on-push : (ns : List ℕ) (n : ℕ) (r : Result (List ℕ × ℕ) FrameFault)
      → and_then (λ e. e) (and_then {Y = List ℕ × ℕ} (λ e. e) r (λ rest. Ok (n ∷ rest.0, rest.1))) (λ rest. proposal_or_fault place (kind.named (ns ++ rest.0)) rest.1)
      ≡ and_then (λ e. e) r (λ rest. proposal_or_fault place (kind.named ((ns ++ (n ∷ [])) ++ rest.0)) rest.1)
  read_on-push ns n (Ok (ms, end)) = rw append_assoc refl
  read_on-push ns n (Err e) = refl

  pub read_on-more : (ns : List ℕ) (i at : ℕ) (d : Decoded) → i < kind.size → Ok d ≡ read_field field.Image bytes at → read_on ns i at ≡ read_on (ns ++ (d.value ∷ [])) (i + 1) d.next
  unfolding read_image
  read_on-more ns i at d more is =
      let e : kind.size - i ≡ suc (kind.size - (i + 1)) = omega arith in
      rw (e, ← is) (read_on-push ns d.value (read_image bytes (kind.size - (i + 1)) d.next))

  pub read_on-stop : (ns : List ℕ) (i at : ℕ) (f : FieldFault) → i < kind.size → Err f ≡ read_field field.Image bytes at → read_on ns i at ≡ Err (Number f)
  unfolding read_image
  read_on-stop ns i at f more is =
      let e : kind.size - i ≡ suc (kind.size - (i + 1)) = omega arith in
      rw (e, ← is) refl

  pub read_on-end : (ns : List ℕ) (i at : ℕ) → kind.size ≤ i → read_on ns i at ≡ proposal_or_fault place (kind.named ns) at
  unfolding read_image
  read_on-end ns i at end =
      let e : kind.size - i ≡ 0 = omega arith in
      rw (e, append-nil) refl

pub ruleset reading = (read_on-none, read_on-more, read_on-stop, read_on-end)
