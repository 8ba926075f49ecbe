use Rattle.std.proofs.Common.{arith}
use Rattle.std.proofs.lemmas.Grind.{common_steps}
use Rattle.fields.proofs.Reading.{table_plan_shown}
use Rattle.fields.proofs.layouts.table_plan_field.Goals as goal

pub returns-clause-read : goal.returns-clause-read
returns-clause-read c = table_plan_shown c.args.indices c.args.value.now c.type_inv.value c.requires _ (grind (arith, common_steps))
