use Rattle.std.proofs.Common.{◌∙◌, arith, rules}
use Rattle.std.proofs.lemmas.Iterator.{YieldsList-from_slice}
use Rattle.std.proofs.lemmas.Iterator.Search.{all_from_yields_List}
use Rattle.ordered.specs.Lists.{holds}
use Rattle.ordered.proofs.Holding.{found_holds, within_all}
use Rattle.ordered.proofs.contains_all.Goals as goal

pub returns : goal.returns
returns g c = λ o asc.
    all_from_yields_List (holds g.T.Ord.cmp c.args.outer.now) _ _ c.all.result c.all.ensures.ran (YieldsList-from_slice c.args.inner.now c.iter.ensures.rest)
    (λ x b q k. (search rules, grind (arith, found_holds g.T.Ord.cmp c.args.outer.now, o, asc)))
    ∙ within_all g.T.Ord.cmp c.args.inner.now c.args.outer.now
