use Rattle.std.proofs.Common.{◌∙◌, rules, tests}
use Rattle.std.proofs.lemmas.Iterator.{YieldsList-from_slice}
use Rattle.std.proofs.lemmas.Iterator.Search.{all_from_yields_List}
use Rattle.truth.specs.Truth.{literal_at}
use Rattle.judging.proofs.Sides.{left_all}
use Rattle.judging.proofs.truths.At.all_hold.Goals as goal

pub returns : goal.returns
returns g c =
    let sys = g.P.Plan.system c.args.self.now.plan.now in
    all_from_yields_List (literal_at sys c.args.self.now.state) _ _ c.all.result c.all.ensures.ran (YieldsList-from_slice c.args.left.now cc) (λ x b q k. search (rules, tests))
    ∙ left_all sys c.args.self.now.state c.args.left.now
