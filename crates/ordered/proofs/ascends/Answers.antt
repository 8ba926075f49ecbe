use Rattle.std.proofs.Common.{rules}
use Rattle.std.specs.Ordering.{is_lt}
use Rattle.std.proofs.lemmas.Fn.{always_returns_same}
use Rattle.ordered.proofs.Ascending.{ascending_answer}
use Rattle.ordered.proofs.ascends.Goals as goal

pub returns : goal.returns
returns g c = λ o.
    ascending_answer g.T.Ord.cmp c.args.items.now c.is_sorted_by.result
    (c.is_sorted_by.ensures.cases (λ x y. is_lt (g.T.Ord.cmp x y)) (always_returns_same _ _ _ (λ x r f' k. let same = g.met.T.Ord.matches_partial_cmp x.0.now x.1.0.now in search (rules, same))))
