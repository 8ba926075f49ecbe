use Rattle.std.proofs.Common.{◌-◌, length}
use Rattle.run.proofs.Taking.{Sofar}
use Rattle.run.proofs.runs.Run.take_rules.Given as goal

abbrev pub invariant-loop-taken : goal.invariant-loop-taken
invariant-loop-taken l = Sofar l.initial.self l.self l.count

abbrev pub decreases-loop-taken : goal.decreases-loop-taken
decreases-loop-taken l = length l.self.reader.bytes.now - l.self.reader.place
