use Rattle.std.proofs.Common.{arith}
use Rattle.std.proofs.lemmas.Grind.{common_steps}
use Rattle.fields.proofs.Reading.{ring_shown}
use Rattle.fields.proofs.layouts.ring_field.Goals as goal

pub returns-clause-read : goal.returns-clause-read
returns-clause-read c k = ring_shown k c.args.value.now c.type_inv.value c.requires _ (grind (arith, common_steps))
