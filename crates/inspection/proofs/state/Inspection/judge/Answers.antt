use Rattle.std.proofs.Common.{length}
use Rattle.inspection.specs.Held.{model_of}
use Rattle.inspection.proofs.Ruling.{judge_answer, judge_exactly}
use Rattle.inspection.proofs.state.Inspection.judge.Goals as goal

pub returns : goal.returns
returns g c =
    let s = c.args.self.now in
    let sys = g.P.Plan.system c.args.plan.now in
    let told = c.judge_rules.ensures in
    record {
      answer = judge_answer (model_of s) sys (length c.args.marks.now) s.indexed c.judge_rules.result told.answer;
      exactly = judge_exactly (model_of s) sys (length c.args.marks.now) s.indexed c.judge_rules.result told.answer told.exactly;
      marks = told.marks;
    }
