use Rattle.std.proofs.Common.{rules}
use Rattle.std.specs.Ordering.{is_lt}
use Rattle.std.proofs.lemmas.Fn.{always_returns_same}
use Rattle.ordered.proofs.Holding.{count_parted, parted_below}
use Rattle.ordered.proofs.lower.Goals as goal

pub returns-clause-is : goal.returns-clause-is
returns-clause-is g c = λ o asc.
    let below = λ (x : g.row.T.Denot). is_lt (g.T.Ord.cmp x c.args.wanted.now) in
    count_parted g.T.Ord.cmp c.args.items.now c.args.wanted.now c.partition_point.result c.partition_point.ensures.bound
    (c.partition_point.ensures.partitioned below (always_returns_same _ _ _ (λ x r f' k. let same = g.met.T.Ord.matches_partial_cmp x.0.now c.args.wanted.now in search (rules, same))) (parted_below o c.args.items.now c.args.wanted.now asc))
