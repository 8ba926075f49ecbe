use Rattle.ordered.specs.Pairs.{pair_order}
use Rattle.plans.proofs.Fitting.{table_fits}
use Rattle.plans.proofs.tables.TablePlan.moves_before.Goals as goal

pub returns-clause-value : goal.returns-clause-value
returns-clause-value c = c.lower.ensures.is pair_order (table_fits c.args.self.now).moves_up
