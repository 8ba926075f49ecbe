use Rattle.std.proofs.Common.{arith}
use Rattle.std.proofs.lemmas.Grind.{common_steps}
use Rattle.fields.proofs.Written.{parse_written}
use Rattle.fields.proofs.walk.Reader.next_field.Goals as goal

pub returns-clause-complete : goal.returns-clause-complete
returns-clause-complete c f rest = parse_written c.args.self.now.source c.args.self.now.bytes.now c.args.self.now.place _ (grind (arith, common_steps)) f rest
