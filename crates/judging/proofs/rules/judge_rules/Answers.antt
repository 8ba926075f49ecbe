use Rattle.std.proofs.Common.{sym, subst}
use Rattle.judging.specs.Judging.{Exactly}
use Rattle.judging.proofs.Exact.{judgement_exact}
use Rattle.judging.proofs.rules.judge_rules.Goals as goal

pub returns-clause-exactly : goal.returns-clause-exactly
returns-clause-exactly g c = λ fits.
    subst (Exactly (g.P.Plan.system c.args.plan.now) c.args.rules.now) (sym (c.judge_marked.ensures.told fits))
    (judgement_exact (g.P.Plan.system c.args.plan.now) c.args.rules.now c.states.ensures.formed fits)
