use Rattle.truth.proofs.Rulings.{paths_decided, rules_decided}
use Rattle.truth.proofs.truth_decided.Goals as goal

pub returns-clause-paths : goal.returns-clause-paths
returns-clause-paths c = paths_decided

pub returns-clause-rules : goal.returns-clause-rules
returns-clause-rules c = rules_decided
