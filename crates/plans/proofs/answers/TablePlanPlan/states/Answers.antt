use Rattle.plans.proofs.Fitting.{table_formed}
use Rattle.plans.proofs.answers.TablePlanPlan.states.Goals as goal

pub returns-clause-formed : goal.returns-clause-formed
returns-clause-formed c = table_formed c.args.self.now
