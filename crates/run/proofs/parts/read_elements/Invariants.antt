use Rattle.std.proofs.Common.{◌≡◌, map, take}
use Rattle.run.proofs.parts.read_elements.Given as goal

abbrev pub invariant-loop-bytes : goal.invariant-loop-bytes
invariant-loop-bytes g l = l.elements.items ≡ map g.T.Element.of (take l.bytes-index l.chunks)
