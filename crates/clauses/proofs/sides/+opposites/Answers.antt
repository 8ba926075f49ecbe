use Rattle.std.proofs.Common.{◌≤◌, length, drop, sym, refl, ap, ◌∙◌, rules}
use Rattle.std.proofs.lemmas.List.{take_rest}
use Rattle.clauses.specs.Lines.{literals}
use Rattle.clauses.specs.Sides.{ascends, opposites}
use Rattle.clauses.proofs.Joining.{literals_of, one_laid, opposites_ascend}
use Rattle.clauses.proofs.sides.+opposites.Goals as goal

pub returns : goal.returns
returns t c =
    let items = c.args.items.now in
    let some : 1 ≤ length items = search rules in
    let others = c.literals.ensures.value ∙ ap literals c.opposites-others.ensures ∙ literals_of _ ∙ ap opposites (take_rest items 1) in
    one_laid items c.literals.result.now c.opposite.result c.unwrap.result some c.requires others c.opposite.ensures
    (sym c.unwrap.ensures ∙ c.joined.ensures refl (ap ascends others ∙ opposites_ascend (drop 1 items)))
