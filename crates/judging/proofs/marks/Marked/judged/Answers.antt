use Rattle.std.proofs.Common.{◌≡◌, get_or, sym, ap, ◌∙◌, arith}
use Rattle.clauses.specs.Lines.{blank}
use Rattle.truth.specs.Deciding.{breaks, lowest_below}
use Rattle.judging.specs.declared.judgements.Judgement.TheVariants.{Broken}
use Rattle.judging.specs.Judging.{AllFit}
use Rattle.judging.proofs.Lowest.{lowest_found, lowest_more}
use Rattle.judging.proofs.Verdicts.{judgement-broken, judgement-kept}
use Rattle.judging.proofs.marks.Marked.judged.Given as given
use Rattle.judging.proofs.marks.Marked.judged.Goals as goal
use Rattle.judging.proofs.marks.Marked.judged.Goals.{After-broken_at}

-- what is told of the rule at a state
told : (g : given.Over) (c : After-broken_at g) → AllFit (g.P.Plan.system c.args.self.now.plan.now) c.args.rules.now → c.broken_at.result ≡ breaks (g.P.Plan.system c.args.self.now.plan.now) (get_or c.args.rules.now c.rules.number blank) c.loop-state.state
told g c fits =
    let fit = fits c.rules.number c.rules-test.true in
    let shown = rw c.rules.invariant.plan at c.mark_asked.ensures.shown in
    let broken = rw (c.mark_asked.ensures.only.plan ∙ c.rules.invariant.plan) at c.broken_at.ensures in
    broken fit (shown fit)

pub loop-state-preserved : goal.loop-state-preserved
loop-state-preserved g c = record {
  kept = c.loop-state.invariant.kept;
  none = λ fits. lowest_more c.loop-state.state (breaks (g.P.Plan.system c.args.self.now.plan.now) (get_or c.args.rules.now c.rules.number blank)) (c.loop-state.invariant.none fits)
      (sym (told g (goal.at.loop-state-preserved g c).After-broken_at fits) ∙ c.if-broken_at.false);
}

pub rules-preserved : goal.rules-preserved
rules-preserved g c = record {
  plan = c.mark_asked.ensures.only.plan ∙ c.rules.invariant.plan;
  lent = c.mark_asked.ensures.only.lent ∙ c.rules.invariant.lent;
  kept = c.loop-state.invariant.kept;
  rest = λ fits.
      let sys = g.P.Plan.system c.args.self.now.plan.now in
      let width = rw (c.mark_asked.ensures.only.plan ∙ c.rules.invariant.plan) at c.mark_asked.new.self.states in
      let all : sys.states ≡ c.loop-state.state = omega arith in
      sym (judgement-kept sys c.args.rules.now c.rules.number c.rules-test.true c.if-not-rule.false
      (ap (λ n. lowest_below n (breaks sys (get_or c.args.rules.now c.rules.number blank))) all ∙ c.loop-state.invariant.none fits))
      ∙ c.rules.invariant.rest fits;
}

pub returns-then-broken_at-clause-told : goal.returns-then-broken_at-clause-told
returns-then-broken_at-clause-told g c = λ fits.
    let sys = g.P.Plan.system c.args.self.now.plan.now in
    let width = rw (c.mark_asked.ensures.only.plan ∙ c.rules.invariant.plan) at c.mark_asked.new.self.states in
    ap (Broken c.rules.number) c.from.ensures ∙ sym (sym (c.rules.invariant.rest fits)
    ∙ judgement-broken sys c.args.rules.now c.rules.number c.rules-test.true c.if-not-rule.false c.loop-state.state
    (lowest_found sys.states (breaks sys (get_or c.args.rules.now c.rules.number blank)) c.loop-state.state (omega arith) (c.loop-state.invariant.none fits)
    (sym (told g (goal.at.returns-then-broken_at-clause-told g c).After-broken_at fits) ∙ c.if-broken_at.true)))
