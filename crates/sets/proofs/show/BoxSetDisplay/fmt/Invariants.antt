use denote.Shadow.{shadow}
use denote.Text.{Utf8}
use Rattle.sets.specs.Masks.{member}
use Rattle.sets.proofs.TextLemmas.{Listed}
use Rattle.sets.proofs.show.BoxSetDisplay.fmt.Given as goal

abbrev pub invariant-loop-i : goal.invariant-loop-i
invariant-loop-i g l = shadow (Utf8 l.separator) × Listed g.W.Write.write_str_gives (member l.self) l.initial.f l.i-counter l.separator l.f
