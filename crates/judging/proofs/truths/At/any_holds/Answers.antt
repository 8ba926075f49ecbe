use Rattle.std.proofs.Common.{◌∙◌, rules, tests}
use Rattle.std.proofs.lemmas.Iterator.{YieldsList-from_slice}
use Rattle.std.proofs.lemmas.Iterator.Search.{any_from_yields_List}
use Rattle.truth.specs.Truth.{literal_at}
use Rattle.judging.proofs.Sides.{right_any}
use Rattle.judging.proofs.truths.At.any_holds.Goals as goal

pub returns : goal.returns
returns g c =
    let sys = g.P.Plan.system c.args.self.now.plan.now in
    any_from_yields_List (literal_at sys c.args.self.now.state) _ _ c.any.result c.any.ensures.ran (YieldsList-from_slice c.args.right.now cc) (λ x b q k. search (rules, tests))
    ∙ right_any sys c.args.self.now.state c.args.right.now
