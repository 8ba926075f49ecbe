use Rattle.std.proofs.Common.{arith}
use Rattle.plans.proofs.Leading.{leading_count}
use Rattle.plans.proofs.answers.TablePlanPlan.free_count.Goals as goal

pub overflow_sub-result : goal.overflow_sub-result
overflow_sub-result c = omega (arith, leading_count c.args.state c.args.self.now.moves.now)
