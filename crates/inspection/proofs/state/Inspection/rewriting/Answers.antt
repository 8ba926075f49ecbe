use Rattle.inspection.specs.Held.{model_of}
use Rattle.inspection.proofs.Making.{rewritten_makes}
use Rattle.inspection.proofs.state.Inspection.rewriting.Goals as goal

pub returns : goal.returns
returns c = rw c.in_ok-line_at.ensures.value (rewritten_makes (model_of c.args.self.now) c.in_ok-line_at.field-0.now c.rewritten.result c.rewritten.ensures)
