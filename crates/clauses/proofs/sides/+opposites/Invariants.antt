use Rattle.std.proofs.Common.{length}
use Rattle.clauses.proofs.sides.+opposites.Given as goal

abbrev pub decreases-opposites : goal.decreases-opposites
decreases-opposites l = length l.items.now
