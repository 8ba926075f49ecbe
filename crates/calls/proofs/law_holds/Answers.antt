use Rattle.std.proofs.Common.{refl}
use Rattle.calls.proofs.Running.{law}
use Rattle.calls.proofs.law_holds.Goals as goal

pub returns : goal.returns
returns c = record { answer = refl; law = law }
