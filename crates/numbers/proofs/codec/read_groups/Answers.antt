use Rattle.std.proofs.Common.{◌≡◌, ℕ, ◌+◌, ◌<◌, ◌≤◌, List, [], ◌∷◌, ◌++◌, length, get_or, take, drop, sym, refl, ◌∙◌, arith}
use Rattle.std.specs.List.{enumerate_from, prefix_len}
use Rattle.std.proofs.lemmas.Grind.{common_steps}
use Rattle.std.proofs.lemmas.List.{length_push}
use Rattle.std.proofs.lemmas.List.FromFn.{length-enumerate_from, get_or-enumerate_from}
use Rattle.std.proofs.lemmas.Iterator.{YieldsList-from_slice}
use Rattle.std.proofs.lemmas.Iterator.Consumers.{YieldsList-from_enumerate, YieldsList-turn, YieldsList-end}
use Rattle.numbers.specs.Numbers.{goes_on, value_of}
use Rattle.numbers.proofs.ReadingStep.{Group, at_end, at_wide, at_fifth, at_last, more, value_more}
use Rattle.numbers.proofs.codec.read_groups.Goals as goal
use Rattle.numbers.proofs.codec.read_groups.Goals.{In-Some}

pub returns-in_default : goal.returns-in_default
returns-in_default c =
    let bs = drop c.args.at c.args.bytes.now in
    let road = YieldsList-from_enumerate (YieldsList-from_slice (drop c.args.at c.args.bytes.now) cc) cc in
    let all : length c.loop-i.yielded ≡ length bs = (YieldsList-end road c.loop-i.yielded _ c.loop-i.yielded_by _ _ c.in_default.is c.next.ensures.steps).1 ∙ length-enumerate_from 0 bs in
    c.refuse.ensures ∙ sym (at_end bs c.args.at (length c.loop-i.yielded) c.loop-i.invariant.few c.loop-i.invariant.on all)

-- the byte that comes, with its place
group : (bs : List ℕ) (k h i b : ℕ) → k ≤ 4 → k ≤ prefix_len goes_on bs → h ≡ value_of (take k bs) → (k < length (enumerate_from 0 bs)) × ((i, b) ≡ get_or (enumerate_from 0 bs) k (i, b)) → (i ≡ k) × Group bs i h b
group bs k h i b few on high next =
    let e : (i ≡ k) × (k < length bs) × (b ≡ get_or bs k 0) = grind (arith, common_steps, length-enumerate_from, get_or-enumerate_from) in
    rw e.0 (refl, record { few = few; on = on; high = high; inside = e.1; byte = e.2 })

read : (c : In-Some) → (c.in-Some.i ≡ length c.loop-i.yielded) × Group (drop c.args.at c.args.bytes.now) c.in-Some.i c.loop-i.high c.in-Some.field-0-1.now
read c =
    let road = YieldsList-from_enumerate (YieldsList-from_slice (drop c.args.at c.args.bytes.now) cc) cc in
    group _ _ _ _ _ c.loop-i.invariant.few c.loop-i.invariant.on c.loop-i.invariant.high (YieldsList-turn road c.loop-i.yielded _ c.loop-i.yielded_by _ _ _ c.in-Some.is c.next.ensures.steps)

pub returns-then-high : goal.returns-then-high
returns-then-high c = c.refuse-then-high.ensures ∙ sym (at_wide (read (goal.at.returns-then-high c).In-Some).1 c.args.at (omega arith) (omega arith))

pub returns-then-i-eq4 : goal.returns-then-i-eq4
returns-then-i-eq4 c = c.refuse-then-i-eq4.ensures ∙ sym (at_fifth (read (goal.at.returns-then-i-eq4 c).In-Some).1 c.args.at (omega arith) (omega arith))

pub loop-i-preserved : goal.loop-i-preserved
loop-i-preserved c =
    let (i, g) = read (goal.at.loop-i-preserved c).In-Some in
    let n : length (c.loop-i.yielded ++ ((c.in-Some.i, c.in-Some.field-0-1) ∷ [])) ≡ c.in-Some.i + 1 = omega (arith, i, length_push c.loop-i.yielded (c.in-Some.i, c.in-Some.field-0-1)) in
    record {
      few = omega arith;
      on = omega (arith, more g (omega arith));
      high = rw (n, c.from-in-loop-i.ensures) (value_more g (omega arith));
    }

pub returns : goal.returns
returns c = let l = at_last (read (goal.at.returns c).In-Some).1 c.args.at (omega arith) (omega arith) in cc
