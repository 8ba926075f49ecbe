use Rattle.std.proofs.Common.{◌≡◌, ℕ, ◌+◌, eqb, is_some, sym, ap, ◌∙◌}
use Rattle.std.proofs.lemmas.Bool.{cond-true, cond-false, eq-eqb, ltb-true, ltb-false, ne_eqb}
use Rattle.plans.specs.Held.{table_of}
use Rattle.plans.specs.Questions.{free_target}
use Rattle.plans.proofs.Fitting.{free_answer}
use Rattle.plans.proofs.Leading.{pick, pick_past, pick_there}
use Rattle.plans.proofs.answers.TablePlanPlan.free_target.Goals as goal
use Rattle.plans.proofs.answers.TablePlanPlan.free_target.Goals.{After-from}

-- what is picked after all pairs that begin below the state
answer : (c : After-from) (v : ℕ) → pick c.args.state c.args.self.now.moves.now (c.moves_before.result + c.from.result) ≡ v → v ≡ free_target (table_of c.args.self.now) c.args.state c.args.number
answer c v h = free_answer c.args.self.now c.args.state c.args.number c.moves_before.result v c.if-state-self.false c.moves_before.ensures.value (ap (λ j. pick c.args.state c.args.self.now.moves.now (c.moves_before.result + j)) (sym c.from.ensures) ∙ h)

pub returns-in-Some : goal.returns-in-Some
returns-in-Some c =
    let p = c.in-Some.step.now in
    let there = c.in-Some.ensures.lookup in
    let told = answer (goal.at.returns-in-Some c).After-from p.second
    (pick_there _ _ _ p (ltb-true _ _ (sym there.0)) there.1 ∙ cond-true (eqb p.first c.args.state) p.second 0 (eq-eqb _ _ c.if-step-state.true)) in
    cc told

pub returns-in_default : goal.returns-in_default
returns-in_default c =
    let p = c.in-Some.step.now in
    let there = c.in-Some.ensures.lookup in
    answer (goal.at.returns-in_default c).After-from 0
    (pick_there _ _ _ p (ltb-true _ _ (sym there.0)) there.1 ∙ cond-false (eqb p.first c.args.state) p.second 0 (ne_eqb _ _ c.if-step-state.false))

pub returns-in_default-2 : goal.returns-in_default-2
returns-in_default-2 c = answer (goal.at.returns-in_default-2 c).After-from 0 (pick_past _ _ _ (ltb-false _ _ (sym c.get.ensures.lookup.0 ∙ ap is_some c.in_default.is)))
