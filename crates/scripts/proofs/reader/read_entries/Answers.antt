use Rattle.std.proofs.Common.{◌≡◌, Ok, Err, arith}
use Rattle.std.proofs.lemmas.Bool.Decides.{nat_tests}
use Rattle.scripts.specs.ScriptReading.{entry_at, read_entries}
use Rattle.scripts.proofs.SeveralRead.{several_more, several_stop}
use Rattle.scripts.proofs.reader.read_entries.Goals as goal

pub returns-in_err-entry : goal.returns-in_err-entry
unfolding read_entries
returns-in_err-entry c =
    let one = entry_at c.args.head.n c.args.head.t c.args.bytes.now in
    let before = c.loop.entries.items in
    let is : one before c.loop.next ≡ Err c.in_err-entry.field-0.0 = grind (arith, c.deref.ensures, c.read_entry.ensures, c.in_err-entry.was) in
    let s = several_stop one c.in_ok-count.count.next c.loop.counter c.in_ok-count.count.value c.loop.next before c.in_err-entry.field-0.0 (omega arith) c.loop.invariant.0 is in
    grind (arith, nat_tests)

pub loop-preserved : goal.loop-preserved
loop-preserved c =
    let one = entry_at c.args.head.n c.args.head.t c.args.bytes.now in
    let before = c.loop.entries.items in
    let is : one before c.loop.next ≡ Ok (c.in_ok-entry.entry, c.in_ok-entry.end) = grind (arith, c.deref.ensures, c.read_entry.ensures, c.in_ok-entry.was) in
    let s = several_more one c.in_ok-count.count.next c.loop.counter c.loop.next before (c.in_ok-entry.entry, c.in_ok-entry.end) c.loop.invariant.0 is in
    (rw c.push.ensures.items s, omega arith)
