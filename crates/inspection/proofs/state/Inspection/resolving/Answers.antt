use Rattle.inspection.specs.Held.{model_of}
use Rattle.inspection.proofs.Making.{lawful_proper, resolvent_makes}
use Rattle.inspection.proofs.state.Inspection.resolving.Goals as goal

pub returns : goal.returns
returns c =
    let m = model_of c.args.self.now in
    let one = c.in_ok-line_at.ensures in
    let two = c.in_ok-line_at-2.ensures in
    let x = c.in_ok-line_at.field-0.now in
    let y = c.in_ok-line_at-2.field-0.now in
    let told = c.resolvent.ensures (lawful_proper m.waits x one.allowed.lawful) (lawful_proper m.waits y two.allowed.lawful) in
    rw (one.value, two.value) (resolvent_makes m x y c.args.literal c.resolvent.result one.allowed two.allowed told)
