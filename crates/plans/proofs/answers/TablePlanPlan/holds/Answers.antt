use Rattle.plans.proofs.Fitting.{table_fits, truths_answer}
use Rattle.plans.proofs.answers.TablePlanPlan.holds.Goals as goal

pub returns : goal.returns
returns c =
    let plan = c.args.self.now in
    let fits = table_fits plan in
    truths_answer plan.states c.args.state c.args.atom plan.truths.now c.listed.result fits.truths_fit (c.listed.ensures fits.truths_up)
