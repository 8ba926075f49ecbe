use Rattle.std.proofs.Common.{◌∙◌, arith}
use Rattle.judging.proofs.Growing.{shows_at_last}
use Rattle.judging.proofs.marks.Marked.grow.Goals as goal

pub returns-clause-shown : goal.returns-clause-shown
returns-clause-shown g c = λ speaks p shows.
    let so_far = c.loop-scope.invariant in
    let within = rw so_far.plan at c.grow_once.ensures.within in
    let closed = rw so_far.plan at c.grow_once.ensures.closed in
    let before = rw so_far.plan at c.loop-scope.self.states in
    let width = rw (c.grow_once.ensures.only.plan ∙ so_far.plan) at c.grow_once.new.self.states in
    shows_at_last (g.P.Plan.system c.args.self.now.plan.now) c.args.scope p c.args.self.now.formed speaks c.args.self.now.marks.now c.grow_once.new.self.marks.now width (omega arith) shows
    (λ s lt h. c.grow_once.ensures.grows s (omega arith) (so_far.grows s lt h))
    (within speaks p (so_far.inside speaks p shows))
    (closed speaks c.loop-scope-test.false)
