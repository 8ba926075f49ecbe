use Rattle.clauses.specs.Lines.{literals}
use Rattle.judging.proofs.Breaking.{step_broken}
use Rattle.judging.proofs.marks.Marked.broken_at.Goals as goal

pub returns-then-all_hold : goal.returns-then-all_hold
returns-then-all_hold g c =
    let self = c.args.self.now in
    step_broken (g.P.Plan.system self.plan.now) self.formed self.marks.now self.states c.args.state c.requires c.in-Step.scope
    c.args.rule.now.kind (literals c.args.rule.now.left) (literals c.args.rule.now.right) c.literals.result.now c.next_marked.result
    c.in-Step.is c.literals.ensures.value c.if-all_hold.ensures c.next_marked.ensures
