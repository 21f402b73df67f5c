use Rattle.std.proofs.Common.{◌≡◌, length, Ok}
use Rattle.scripts.specs.ScriptReading.{read_several, entry_at}
use Rattle.scripts.proofs.reader.read_entries.Given as goal

abbrev pub invariant-loop : goal.invariant-loop
invariant-loop l =
    (read_several (entry_at l.head.n l.head.t l.bytes) l.counter l.initial.next ≡ Ok (l.entries.items, l.next))
    × (length l.entries.items ≡ l.counter)
