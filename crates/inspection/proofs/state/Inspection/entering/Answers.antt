use Rattle.std.proofs.Common.{is_some, sym, ap, ◌∙◌}
use Rattle.inspection.specs.Held.{model_of}
use Rattle.inspection.proofs.Making.{entered_makes, entered_some}
use Rattle.inspection.proofs.state.Inspection.entering.Goals as goal

pub unwrap-requires : goal.unwrap-requires
unwrap-requires c = ap is_some (c.entered.ensures ∙ entered_some (model_of c.args.self.now) c.args.number c.in_ok-line.field-0 c.in_ok-line.ensures)

pub returns : goal.returns
returns c =
    let made = entered_some (model_of c.args.self.now) c.args.number c.in_ok-line.field-0 c.in_ok-line.ensures in
    entered_makes (model_of c.args.self.now) c.args.number c.in_ok-line.field-0 c.in_ok-line.ensures c.unwrap.result (sym c.unwrap.ensures ∙ c.entered.ensures ∙ made)
