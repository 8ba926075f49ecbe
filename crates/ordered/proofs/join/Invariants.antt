use Rattle.std.proofs.Common.{◌≡◌, true, ◌++◌, take, drop}
use Rattle.ordered.specs.Lists.{ascending}
use Rattle.ordered.specs.Unions.{union, IfBothAscend}
use Rattle.ordered.proofs.join.Given as goal

-- what was written and what is left make up the union, and the rest of `out` is as it was
abbrev pub invariant-loop-count : goal.invariant-loop-count
invariant-loop-count g l =
    record {
      rest : drop l.count l.out ≡ drop l.count l.initial.out;
      written : IfBothAscend g.T.Ord.cmp l.initial.a l.initial.b ((union g.T.Ord.cmp l.initial.a l.initial.b ≡ take l.count l.out ++ union g.T.Ord.cmp l.union.a.now l.union.b.now) × (ascending g.T.Ord.cmp l.union.a.now ≡ true) × (ascending g.T.Ord.cmp l.union.b.now ≡ true));
    }
