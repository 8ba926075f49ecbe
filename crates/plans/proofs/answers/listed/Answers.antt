use Rattle.std.proofs.Common.{arith}
use Rattle.std.proofs.lemmas.Grind.{common_steps}
use Rattle.ordered.proofs.Holding.{place_holds}
use Rattle.ordered.specs.Pairs.{pair_order}
use Rattle.plans.proofs.answers.listed.Goals as goal

pub returns : goal.returns
returns c = λ up. grind (arith, common_steps, c.find.ensures.is pair_order up, place_holds)
