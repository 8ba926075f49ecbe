use Rattle.std.proofs.Common.{◌≡◌, ◌∙◌, rules, tests}
use Rattle.std.proofs.lemmas.Iterator.{YieldsList-from_slice}
use Rattle.std.proofs.lemmas.Iterator.Search.{position_from_yields_List}
use Rattle.clauses.specs.Lines.{refutes}
use Rattle.inspection.specs.Held.{model_of}
use Rattle.inspection.specs.Told.{told_verdict}
use Rattle.inspection.proofs.Lowest.{by_first, lowest_first}
use Rattle.inspection.proofs.state.Inspection.verdict.Goals as goal

pub returns-clause-answer : goal.returns-clause-answer
returns-clause-answer c =
    let xs = (model_of c.args.self.now).lines in
    let told : told_verdict c.map_or.result ≡ by_first c.position.result = search rules in
    told ∙ lowest_first xs c.position.result (position_from_yields_List refutes _ _ c.position.result c.position.ensures.ran (YieldsList-from_slice xs (cc)) (λ x b q k. search (rules, tests)))
