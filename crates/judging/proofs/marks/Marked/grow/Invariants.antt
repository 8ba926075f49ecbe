use Rattle.std.proofs.Common.{◌≡◌, ℕ, Bool}
use Rattle.truth.specs.Systems.{Speaks}
use Rattle.truth.specs.Deciding.{sooner}
use Rattle.judging.specs.Marks.{Grows, Shows, Within, unmarked}
use Rattle.judging.proofs.marks.Marked.grow.Given as goal

-- the marks have grown, and are still within what is met sooner or later
abbrev pub invariant-loop-scope : goal.invariant-loop-scope
invariant-loop-scope g l = record {
  plan : l.self.plan ≡ l.initial.self.plan;
  lent : l.self.marks.ghost_name ≡ l.initial.self.marks.ghost_name;
  grows : Grows l.initial.self.marks.now l.self.marks.now;
  inside : Speaks (g.P.Plan.system l.initial.self.plan.now) l.scope → (p : ℕ → Bool) → Shows l.initial.self.marks.now p → Within l.self.marks.now (sooner (g.P.Plan.system l.initial.self.plan.now) l.scope p);
}

-- how many states are not marked yet
abbrev pub decreases-loop-scope : goal.decreases-loop-scope
decreases-loop-scope g l = unmarked l.self.marks.now
