use Rattle.std.proofs.Common.{Some, ap}
use Rattle.inspection.specs.Held.{model_of}
use Rattle.inspection.proofs.Making.{stayed_makes}
use Rattle.inspection.proofs.state.Inspection.staying.Goals as goal

pub returns : goal.returns
returns c = stayed_makes (model_of c.args.self.now) c.args.number c.in_ok-wait.field-0 c.in_ok-wait.ensures c.stayed.result (ap Some c.stayed.ensures)
