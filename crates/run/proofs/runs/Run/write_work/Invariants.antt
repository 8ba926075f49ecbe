use Rattle.std.proofs.Common.{◌-◌, length, string_bytes}
use Rattle.run.proofs.Going.{Sofar}
use Rattle.run.proofs.runs.Run.write_work.Given as goal

abbrev pub invariant-loop-number : goal.invariant-loop-number
invariant-loop-number l = Sofar l.work (string_bytes l.initial.text) l.initial.self.inspection l.self (string_bytes l.text) l.number

abbrev pub decreases-loop-number : goal.decreases-loop-number
decreases-loop-number l = length l.self.reader.bytes.now - l.self.reader.place
