use Rattle.std.proofs.Common.{rules, tests, ◌≡◌, arith, refl, ◌∙◌, ap, get_or}
use Rattle.std.proofs.lemmas.Grind.{common_steps}
use Rattle.std.proofs.lemmas.Iterator.{YieldsList-from_range}
use Rattle.std.proofs.lemmas.Iterator.Search.{all_from_yields_List}
use Rattle.plans.specs.Questions.{free_target, target_of}
use Rattle.truth.specs.Deciding.{all_below, every_free}
use Rattle.judging.specs.Marks.{marked}
use Rattle.judging.proofs.Bytes.{row_below}
use Rattle.judging.proofs.Targets.{target_is, free_count_is, free_target_is}
use Rattle.judging.proofs.marks.Marked.next_marked.Given as given
use Rattle.judging.proofs.marks.Marked.next_marked.Goals as goal
use Rattle.judging.proofs.marks.Marked.next_marked.Goals.{After-all}

-- what is answered of the indices
indices_told : (g : given.Over) (c : After-all g) → c.all.result ≡ all_below (g.P.Plan.system c.args.self.now.plan.now).indices (λ i. marked c.args.self.now.marks.now ((g.P.Plan.system c.args.self.now.plan.now).target c.args.state i))
indices_told g c =
    let sys = g.P.Plan.system c.args.self.now.plan.now in
    let marks = c.args.self.now.marks.now in
    let s = c.args.state in
    all_from_yields_List (λ i. marked marks (target_of sys s i)) _ _ c.all.result c.all.ensures.ran (YieldsList-from_range 0 c.indices.result c.indices.result refl (omega arith)) (λ x b q k. search (rules, tests))
    ∙ row_below c.indices.result (λ i. marked marks (target_of sys s i)) (λ i. marked marks (sys.target s i)) (λ i lt. ap (marked marks) (target_is sys s (omega arith) i (omega arith)))
    ∙ ap (λ n. all_below n (λ i. marked marks (sys.target s i))) c.indices.ensures

pub returns-else-all : goal.returns-else-all
returns-else-all g c =
    let told = indices_told g (goal.at.returns-else-all g c).After-all in
    grind (arith, common_steps, told)

pub returns-then-all : goal.returns-then-all
returns-then-all g c =
    let sys = g.P.Plan.system c.args.self.now.plan.now in
    let marks = c.args.self.now.marks.now in
    let s = c.args.state in
    let told = indices_told g (goal.at.returns-then-all g c).After-all in
    let free : c.all-then-all.result ≡ every_free (marked marks) (sys.free s) =
    all_from_yields_List (λ j. marked marks (free_target sys s j)) _ _ c.all-then-all.result c.all-then-all.ensures.ran (YieldsList-from_range 0 c.free_count.result c.free_count.result refl (omega arith)) (λ x b q k. search (rules, tests))
    ∙ row_below c.free_count.result (λ j. marked marks (free_target sys s j)) (λ j. marked marks (get_or (sys.free s) j 0)) (λ j lt. ap (marked marks) (free_target_is sys s (omega arith) j))
    ∙ ap (λ n. all_below n (λ j. marked marks (get_or (sys.free s) j 0))) (c.free_count.ensures ∙ free_count_is sys s (omega arith)) in
    grind (arith, common_steps, told, free)
