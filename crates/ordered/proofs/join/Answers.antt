use Rattle.std.proofs.Common.{get_or, true, [], ◌≡◌, ◌+◌, List, ◌++◌, length, take, drop, sym, ap, ◌∙◌, arith}
use Rattle.std.proofs.lemmas.Bool.{ltb-false, ltb-true}
use Rattle.std.proofs.lemmas.List.{drop-drop, drop-set-lt, take-set}
use Rattle.std.specs.Cmp.{IsTotalOrder}
use Rattle.ordered.specs.Lists.{ascending}
use Rattle.ordered.specs.Unions.{union}
use Rattle.ordered.proofs.Uniting.{all_counted, all_written, fitting_none, leads_written, none_left, past}
use Rattle.ordered.proofs.join.Given as given
use Rattle.ordered.proofs.join.Goals as goal
use Rattle.ordered.proofs.join.Goals.{After-loop-count}

pub returns-then-is_some-clause-counts : goal.returns-then-is_some-clause-counts
returns-then-is_some-clause-counts g c = λ o h k.
    sym (fitting_none (length (union g.T.Ord.cmp c.args.a.now c.args.b.now)) (length c.args.out.now) (ltb-true (length c.args.out.now) (length (union g.T.Ord.cmp c.args.a.now c.args.b.now)) (past o (record { a = c.args.a; b = c.args.b }) c.nth.new.self _ c.nth.result c.nth.ensures.ran h k ∙ sym c.is_some.ensures ∙ c.if-is_some.true)))

pub returns-in_default-clause-counts : goal.returns-in_default-clause-counts
returns-in_default-clause-counts g c = λ o h k.
    let so = c.loop-count.invariant.written o h k in
    all_counted (union g.T.Ord.cmp c.args.a.now c.args.b.now) c.loop-count.out (union g.T.Ord.cmp c.loop-count.union.a.now c.loop-count.union.b.now) c.loop-count.count (omega arith) so.0 (length c.args.out.now) (omega arith) (c.in_default.ensures.steps o so.1 so.2)

pub returns-in_default-clause-written : goal.returns-in_default-clause-written
returns-in_default-clause-written g c = λ o h k.
    let so = c.loop-count.invariant.written o h k in
    take-set c.loop-count.out c.loop-count.count (get_or c.loop-count.out c.loop-count.count c.index-out-count.result) ∙ all_written (union g.T.Ord.cmp c.args.a.now c.args.b.now) c.loop-count.out (union g.T.Ord.cmp c.loop-count.union.a.now c.loop-count.union.b.now) c.loop-count.count (omega arith) so.0 (c.in_default.ensures.steps o so.1 so.2)

pub loop-count-preserved : goal.loop-count-preserved
loop-count-preserved g c = record {
  rest = drop-set-lt (c.loop-count.count + 1) c.loop-count.out c.loop-count.count c.in-Some.first.now (omega arith)
      ∙ sym (drop-drop 1 c.loop-count.count c.loop-count.out) ∙ ap (drop 1) c.loop-count.invariant.rest ∙ drop-drop 1 c.loop-count.count c.args.out.now;
  written = λ o h k.
      let so = c.loop-count.invariant.written o h k in
      let next = c.in-Some.ensures.steps o so.1 so.2 in (
        leads_written g.T.Ord.cmp c.loop-count.union.a.now c.loop-count.union.b.now c.in-Some.first.now c.next.new.self.a.now c.next.new.self.b.now next
            (union g.T.Ord.cmp c.args.a.now c.args.b.now) c.loop-count.out c.loop-count.count (omega arith) so.0,
        next.1,
        next.2,
      );
}

-- every place was written, and there is nothing past them
module _ (g : given.Over) (c : After-loop-count g) (o : IsTotalOrder g.T.Ord.cmp) (h : ascending g.T.Ord.cmp c.args.a.now ≡ true) (k : ascending g.T.Ord.cmp c.args.b.now ≡ true) where
  abbrev all : List g.row.T.Denot
  all = union g.T.Ord.cmp c.args.a.now c.args.b.now

  abbrev left : List g.row.T.Denot
  left = union g.T.Ord.cmp c.loop-count.union.a.now c.loop-count.union.b.now

  made : all ≡ take (length c.loop-count.out) c.loop-count.out ++ left
  made = (c.loop-count.invariant.written o h k).0 ∙ ap (λ n. take n c.loop-count.out ++ left) (omega arith)

  none : left ≡ []
  none =
      none_left all c.loop-count.out left (length c.loop-count.out) (omega arith) made
      (omega (arith, ltb-false _ _ (past o (record { a = c.args.a; b = c.args.b }) c.nth.new.self _ c.nth.result c.nth.ensures.ran h k ∙ sym c.is_some.ensures ∙ c.if-is_some.false)))

pub returns-clause-counts : goal.returns-clause-counts
returns-clause-counts g c = λ o h k.
    all_counted (all g c o h k) c.loop-count.out (left g c o h k) (length c.loop-count.out) (omega arith) (made g c o h k) (length c.args.out.now) (omega arith) (none g c o h k)

pub returns-clause-written : goal.returns-clause-written
returns-clause-written g c = λ o h k.
    all_written (all g c o h k) c.loop-count.out (left g c o h k) (length c.loop-count.out) (omega arith) (made g c o h k) (none g c o h k)
