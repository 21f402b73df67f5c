use Rattle.std.proofs.Common.{◌≡◌, length, get_or, arith}
use Rattle.numbers.specs.Numbers.{number_bytes}
use Rattle.numbers.proofs.SeveralWritten.{lays, written_all-more, put_rest}
use Rattle.numbers.proofs.codec.write_numbers.Goals as goal

pub loop-n-preserved : goal.loop-n-preserved
loop-n-preserved c =
    let i = c.loop-n.invariant in
    let e : c.in_ok-at.field-0 ≡ length (number_bytes (get_or c.args.numbers.now c.loop-n.n-index 0)) = grind (arith, lays) in
    record {
      long = grind (arith, lays);
      done = rw (e, c.write_number.ensures.bytes, written_all-more c.args.numbers.now c.loop-n.n-index c.loop-n-test.true) (put_rest _ _ c.loop-n.out c.args.out.now c.loop-n.at i.done i.long (grind (arith, lays)));
      room = i.room;
    }
