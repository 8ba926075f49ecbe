use Rattle.std.proofs.Common.{◌≡◌, drop, None}
use Rattle.truth.specs.Deciding.{breaks, lowest_below}
use Rattle.judging.specs.declared.judgements.Judgement.TheVariants.{Kept}
use Rattle.judging.specs.Judging.{AllFit, judgement, judgement_from}
use Rattle.judging.proofs.marks.Marked.judged.Given as goal

-- at no state so far is the rule broken
abbrev pub invariant-loop-state : goal.invariant-loop-state
invariant-loop-state g l = record {
  kept : l.judgement ≡ Kept;
  none : AllFit (g.P.Plan.system l.fn.self.plan.now) l.rules → lowest_below l.state (breaks (g.P.Plan.system l.fn.self.plan.now) l.rule) ≡ None;
}

-- the lines that are left decide
abbrev pub invariant-rules : goal.invariant-rules
invariant-rules g l = record {
  plan : l.self.plan ≡ l.initial.self.plan;
  lent : l.self.marks.ghost_name ≡ l.initial.self.marks.ghost_name;
  kept : l.judgement ≡ Kept;
  rest : AllFit (g.P.Plan.system l.initial.self.plan.now) l.rules → judgement_from l.number (g.P.Plan.system l.initial.self.plan.now) (drop l.number l.rules) ≡ judgement (g.P.Plan.system l.initial.self.plan.now) l.rules;
}
