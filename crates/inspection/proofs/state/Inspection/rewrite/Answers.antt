use Rattle.std.proofs.Common.{arith, rules}
use Rattle.std.proofs.lemmas.Grind.{common_steps}
use Rattle.calls.specs.Calls.{rewrite}
use Rattle.inspection.specs.Told.{Does, told_line}
use Rattle.inspection.specs.Held.{model_of}
use Rattle.inspection.proofs.Accepting.{rewrite_calculus}
use Rattle.inspection.proofs.state.Inspection.rewrite.Goals as goal

pub returns-in_err-line : goal.returns-in_err-line
returns-in_err-line c =
    let s = c.args.self.now in
    let m = model_of s in
    let does : Does (told_line c.from_residual.result) (rewrite c.args.number) s s = grind (arith, common_steps) in
    record { does = does; calculus = rewrite_calculus m c.args.number _ _ does.answer does.after }

pub returns : goal.returns
returns c =
    let s = c.args.self.now in
    let m = model_of s in
    let does : Does (told_line c.store.result) (rewrite c.args.number) s c.store.new.self = search rules in
    record { does = does; calculus = rewrite_calculus m c.args.number _ _ does.answer does.after }
