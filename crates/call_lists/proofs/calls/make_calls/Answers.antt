use Rattle.std.proofs.Common.{◌≡◌, ◌+◌, ◌≤◌, ◌++◌, length, map, set, take, drop, sym, ap, refl, ◌∙◌, arith}
use Rattle.std.proofs.lemmas.List.{length-set}
use Rattle.machine.specs.Places.{place_state}
use Rattle.promise.specs.declared.request.Request.{Request}
use Rattle.promise.specs.declared.request.Request.TheVariants as request
use Rattle.promise.specs.CallSteps.{state_after, answers_to}
use Rattle.ringing.specs.RingingStates.{state_of}
use Rattle.call_lists.proofs.SlotLemmas.{out_all}
use Rattle.call_lists.proofs.CallLemmas.{ends_on, answers_on, rest_on, ends_so, answers_so, goes_on}
use Rattle.call_lists.proofs.calls.make_calls.Goals as goal

abbrev blank : Request
blank = request.Fall (record { 0 = 0 }) (record { mask = 0 })

pub loop-index-init : goal.loop-index-init
loop-index-init g c = record {
  orders = out_all (map place_state c.args.row.now) c.args.orders.now (sym c.are_out.ensures ∙ c.if-not-are_out.false);
  ends = refl;
  answers = refl;
  rest = refl;
  room = refl;
}

pub loop-index-preserved : goal.loop-index-preserved
loop-index-preserved g c =
    let kind = g.K.Proposal.kind in
    let v = c.loop-index.invariant in
    let i = c.loop-index.index in
    let r = c.loop-index.ringing in
    let s = state_of r c.loop-index.row in
    let calls = c.args.calls.now in
    let answers = c.loop-index.answers in
    let inside = c.loop-index-test.true in
    let room : length calls ≤ length answers = omega (arith, v.room, c.if-answers-calls.false) in
    let steps = c.make_call.ensures.steps in
    let written = c.put.ensures ∙ ap (set answers i) steps.0 in
    record {
      orders = c.make_call.ensures.orders;
      ends = ap (state_after kind (drop (i + 1) calls)) steps.1 ∙ sym (ends_on kind calls answers i blank inside room s) ∙ v.ends;
      answers =
          (λ j. take (i + 1) (written j) ++ answers_to kind (drop (i + 1) calls) (steps.1 j))
          ∙ answers_on kind calls answers i blank inside room s ∙ v.answers;
      rest = ap (drop (i + 1)) written ∙ rest_on kind calls answers i blank inside room s c.args.answers.now v.rest;
      room = ap length c.put.ensures ∙ length-set answers i c.make_call.result ∙ v.room;
    }

pub returns-clause-state : goal.returns-clause-state
returns-clause-state g c =
    let kind = g.K.Proposal.kind in
    let r = c.loop-index.ringing in
    let s = state_of r c.loop-index.row in
    sym (ends_so kind c.args.calls.now c.loop-index.index c.loop-index-test.false s) ∙ c.loop-index.invariant.ends

pub returns-clause-answers : goal.returns-clause-answers
returns-clause-answers g c =
    let kind = g.K.Proposal.kind in
    let v = c.loop-index.invariant in
    let r = c.loop-index.ringing in
    let s = state_of r c.loop-index.row in
    let all : c.loop-index.index ≡ length c.args.calls.now = omega (arith, c.loop-index-test.false, c.loop-index.auto.index-end) in
    answers_so kind c.args.calls.now c.loop-index.index c.loop-index-test.false s c.loop-index.answers c.args.answers.now _ all v.answers v.rest

pub returns-clause-promised : goal.returns-clause-promised
returns-clause-promised g c =
    let kind = g.K.Proposal.kind in
    let v = c.loop-index.invariant in
    let r = c.loop-index.ringing in
    let f = c.args.ringing.now in
    let s = state_of r c.loop-index.row in
    let all : c.loop-index.index ≡ length c.args.calls.now = omega (arith, c.loop-index-test.false, c.loop-index.auto.index-end) in
    goes_on kind c.promise_laws.ensures.promised c.args.calls.now (state_of f c.args.row.now) s c.loop-index.answers _
    (sym (ends_so kind c.args.calls.now c.loop-index.index c.loop-index-test.false s) ∙ v.ends)
    (answers_so kind c.args.calls.now c.loop-index.index c.loop-index-test.false s c.loop-index.answers c.args.answers.now _ all v.answers v.rest)
