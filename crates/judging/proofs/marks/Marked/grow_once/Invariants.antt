use Rattle.std.proofs.Common.{◌≡◌, length}
use Rattle.judging.proofs.Growing.{Round, Seen}
use Rattle.judging.proofs.marks.Marked.grow_once.Given as goal

abbrev pub invariant-loop-step : goal.invariant-loop-step
invariant-loop-step g l = record {
  plan : l.self.plan ≡ l.initial.self.plan;
  lent : l.self.marks.ghost_name ≡ l.initial.self.marks.ghost_name;
  turn : Round (g.P.Plan.system l.initial.self.plan.now) l.scope l.initial.self.marks.now l.self.marks.now l.grown (Seen (length l.initial.self.marks.now) l.up l.step);
}
