use Rattle.std.proofs.Common.{◌∙◌, ap, sym, refl, arith}
use Rattle.std.proofs.lemmas.Bool.Decides.{nat_tests}
use Rattle.std.proofs.lemmas.List.{length-take-le}
use Rattle.scripts.proofs.HeadLimits.{head_is}
use Rattle.scripts.proofs.EntriesFit.{read_entries_fit}
use Rattle.scripts.proofs.SeveralRead.{several_length}
use Rattle.scripts.proofs.ScriptSteps.{told_place, told_refusal, read_once, never_both, head_stop, proposals_stop, entries_stop, surplus_stop, script_is}
use Rattle.scripts.proofs.reader.read_script.Goals as goal

pub returns-in_err-head : goal.returns-in_err-head
returns-in_err-head g c =
    let kind = g.K.Proposal.kind in
    let is = sym c.read_head.ensures ∙ c.in_err-head.was in
    let s = head_stop kind _ c.args.bytes.now _ is in
    record { answer = grind (arith, nat_tests); places = rw s refl }

pub returns-in_err-next : goal.returns-in_err-next
returns-in_err-next g c =
    let kind = g.K.Proposal.kind in
    let h = sym c.read_head.ensures ∙ c.in_ok-head.was in
    let is = told_refusal _ _ (sym c.judge_proposals.ensures ∙ c.in_err-next.was) in
    let s = proposals_stop kind _ c.args.bytes.now _ h _ is in
    record { answer = grind (arith, nat_tests); places = rw s refl }

pub read_entries-requires : goal.read_entries-requires
read_entries-requires g c =
    let h = sym c.read_head.ensures ∙ c.in_ok-head.was in
    (head_is _ _ _ h).size

pub returns-in_err-entries : goal.returns-in_err-entries
returns-in_err-entries g c =
    let kind = g.K.Proposal.kind in
    let h = sym c.read_head.ensures ∙ c.in_ok-head.was in
    let p = told_place _ _ (sym c.judge_proposals.ensures ∙ c.in_ok-next.was) in
    let is = sym (rw c.in_err-entries.was at c.read_entries.ensures) in
    let s = entries_stop kind _ c.args.bytes.now _ h _ _ p.1 _ is in
    record { answer = grind (arith, nat_tests); places = rw s refl }

pub returns-then-end-bytes : goal.returns-then-end-bytes
returns-then-end-bytes g c =
    let kind = g.K.Proposal.kind in
    let h = sym c.read_head.ensures ∙ c.in_ok-head.was in
    let p = told_place _ _ (sym c.judge_proposals.ensures ∙ c.in_ok-next.was) in
    let q = sym (rw c.in_ok-entries.was at c.read_entries.ensures) in
    let s = surplus_stop kind _ c.args.bytes.now _ h _ _ p.1 _ _ q (omega arith) in
    record { answer = rw s refl; places = grind arith }

pub slice_bounds-read_proposals-end : goal.slice_bounds-read_proposals-end
slice_bounds-read_proposals-end g c =
    let h = sym c.read_head.ensures ∙ c.in_ok-head.was in
    let is = head_is _ _ _ h in
    omega (arith, is.room)

pub slice_bounds-read_proposals-end-2 : goal.slice_bounds-read_proposals-end-2
slice_bounds-read_proposals-end-2 g c =
    let h = sym c.read_head.ensures ∙ c.in_ok-head.was in
    let is = head_is _ _ _ h in
    sym (length-take-le _ c.args.places.now is.room)

pub returns-in_err-read_proposals : goal.returns-in_err-read_proposals
returns-in_err-read_proposals g c =
    let h = sym c.read_head.ensures ∙ c.in_ok-head.was in
    let is = head_is _ _ _ h in
    let p = told_place _ _ (sym c.judge_proposals.ensures ∙ c.in_ok-next.was) in
    let e = rw (c.in_err-read_proposals.was, length-take-le _ c.args.places.now is.room) at c.read_proposals.ensures in
    absurd (never_both _ _ (e ∙ p.1))

pub invariant_of-result : goal.invariant_of-result
invariant_of-result g c =
    let h = sym c.read_head.ensures ∙ c.in_ok-head.was in
    let q = sym (rw c.in_ok-entries.was at c.read_entries.ensures) in
    let f = read_entries_fit _ _ _ _ _ q in
    record { size = (head_is _ _ _ h).size; few = f.1; fitting = f.0 }

pub returns : goal.returns
returns g c =
    let kind = g.K.Proposal.kind in
    let h = sym c.read_head.ensures ∙ c.in_ok-head.was in
    let p = told_place _ _ (sym c.judge_proposals.ensures ∙ c.in_ok-next.was) in
    let q = sym (rw c.in_ok-entries.was at c.read_entries.ensures) in
    let s = script_is kind _ c.args.bytes.now _ h _ _ p.1 _ _ q (omega arith) in
    let is = head_is _ _ _ h in
    let e = rw (c.in_ok-read_proposals.was, length-take-le _ c.args.places.now is.room) at c.read_proposals.ensures in
    let same = ap (λ x. x.0) (read_once _ _ (e ∙ p.1)) in
    let long = several_length _ _ _ _ p.1 in
    record { answer = rw s refl; places = rw (s, same, long) refl }
