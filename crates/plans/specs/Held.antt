-- The system that a plan holds. Assumes nothing.
use Rattle.truth.specs.Systems.{System}
use Rattle.plans.specs.declared.rings.Ring.{Ring}
use Rattle.plans.specs.declared.tables.TablePlan.{TablePlan}
use Rattle.plans.specs.Rings.{ring_system}
use Rattle.plans.specs.Tables.{table_system}

abbrev pub table_of : TablePlan → System
table_of plan = table_system plan.states plan.indices plan.targets.now plan.truths.now plan.moves.now

abbrev pub ring_of : Ring → System
ring_of plan = ring_system plan.states plan.indices plan.back plan.truths.now
