use Rattle.std.proofs.Common.{arith}
use Rattle.std.proofs.lemmas.Grind.{common_steps}
use Rattle.fields.proofs.Reading.{split_front, split_short}
use Rattle.fields.proofs.layouts.split_field.Goals as goal

pub returns-clause-front : goal.returns-clause-front
returns-clause-front c = split_front c.args.bytes.now c.type_inv.bytes _ _ (grind (arith, common_steps))

pub returns-clause-short : goal.returns-clause-short
returns-clause-short c = split_short c.args.bytes.now c.type_inv.bytes c.in_ok-tag.tag.now _ (grind (arith, common_steps))
