use Rattle.std.proofs.Common.{false, take, sym, ap, ◌∙◌, append-nil, arith, length-take, true}
use Rattle.clauses.specs.Lines.{side_of}
use Rattle.clauses.specs.Sides.{without}
use Rattle.clauses.proofs.Joining.{kept_more, without_length}
use Rattle.clauses.proofs.sides.without.Goals as goal
use Rattle.clauses.proofs.sides.without.Goals.{then-ne, else-ne}

pub push-requires : goal.push-requires
push-requires c =
    omega (arith, ap (λ s. s.count) c.loop-x.invariant, without_length c.args.gone (take c.loop-x.x-index c.args.items.now), length-take c.loop-x.x-index c.args.items.now)

pub loop-x-preserved : goal.loop-x-preserved
loop-x-preserved c =
    let so = c.loop-x.invariant in
    let kept = without c.args.gone (take c.loop-x.x-index c.args.items.now) in
    elim c.if-ne.branch [
      | then-ne w ↦ w.kept-is ∙ w.push.ensures kept so ∙ ap side_of (kept_more c.args.gone c.args.items.now c.loop-x.x-index true c.loop-x-test.true (sym w.if-ne.true ∙ c.ne.ensures))
      | else-ne w ↦ w.kept-is ∙ so ∙ ap side_of (sym (append-nil kept) ∙ kept_more c.args.gone c.args.items.now c.loop-x.x-index false c.loop-x-test.true (sym w.if-ne.false ∙ c.ne.ensures))
    ]
