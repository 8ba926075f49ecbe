use Rattle.std.proofs.Common.{◌≡◌, length, sym, ap, ◌∙◌, arith, rules}
use Rattle.std.proofs.lemmas.Result.{IfOk-weaker}
use Rattle.inspection.specs.Held.{model_of}
use Rattle.run.specs.Runs.{made_by, taken}
use Rattle.run.specs.Steps.{rest_of}
use Rattle.run.proofs.Continuing.{grown_on}
use Rattle.run.proofs.reports.write_opened.Goals as goal

pub returns-in_ok-writeln-in-Ok-clause-lines : goal.returns-in_ok-writeln-in-Ok-clause-lines
returns-in_ok-writeln-in-Ok-clause-lines c =
    let grown = grown_on c.args.inspection.now c.take_rules.new.self.inspection.now c.write_work.new.self.inspection.now c.take_rules.ensures.on.lines c.write_work.ensures.lines in
    search rules

pub returns-in_ok-writeln-in-Ok-clause-left : goal.returns-in_ok-writeln-in-Ok-clause-left
returns-in_ok-writeln-in-Ok-clause-left c =
    let all : rest_of c.args.reader (model_of c.args.inspection.now) ≡ taken (model_of c.take_rules.new.self.inspection.now) c.in-Ok.rules = c.in-Ok.ensures.rules (length c.args.reader.bytes.now) (omega (arith, c.requires.begun)) in
    let left = IfOk-weaker c.write_work.result _ _ (λ _ e. e ∙ ap (made_by c.args.work.now) (sym all)) c.write_work.ensures.left in
    search rules
