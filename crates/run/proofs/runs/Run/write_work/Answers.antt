use Rattle.std.proofs.Common.{◌≡◌, ◌++◌, IfOk, string_bytes, ap, ◌∙◌, subst, rules}
use Rattle.std.proofs.lemmas.Result.{IfOk-weaker}
use Rattle.fields.specs.declared.shapes.Source.TheVariants as source
use Rattle.calls.specs.Calls.{answer, verdict}
use Rattle.inspection.specs.Held.{model_of}
use Rattle.run.specs.Steps.{Written}
use Rattle.run.specs.Text.{verdict_text}
use Rattle.run.proofs.Continuing.{grown_on}
use Rattle.run.proofs.Going.{last_left, last_line, made_so, one_more, start}
use Rattle.run.proofs.runs.Run.write_work.Goals as goal

pub loop-number-init : goal.loop-number-init
loop-number-init c = let new = c.new-self.ensures in start c.args.work.now (string_bytes c.args.text.now) (record { reader = c.new-self.result; inspection = c.args.self.now.inspection }) (new.file ∙ ap source.Work c.indices-indices.ensures) new.lent new.start

pub loop-number-preserved : goal.loop-number-preserved
loop-number-preserved c =
    let next = c.in_ok-write_next.ensures in
    let s = c.loop-number.self in
    let s' = c.write_next.new.self in
    let text' = string_bytes c.write_next.new.text in
    one_more c.loop-number.invariant s' text' next.on (subst (λ b. Written b c.loop-number.number (string_bytes c.loop-number.text) text' s s') c.if-branch.true next.step)

pub returns-in_err-write_next-clause-lines : goal.returns-in_err-write_next-clause-lines
returns-in_err-write_next-clause-lines c = grown_on c.args.self.now.inspection.now c.loop-number.self.inspection.now c.write_next.new.self.inspection.now c.loop-number.invariant.grown c.in_err-write_next.ensures.on.lines

pub returns : goal.returns
returns c =
    let h = c.loop-number.invariant in
    let next = c.in_ok-write_next.ensures in
    let s = c.loop-number.self in
    let s' = c.write_next.new.self in
    let text' = string_bytes c.write_next.new.text in
    let wrote = subst (λ b. Written b c.loop-number.number (string_bytes c.loop-number.text) text' s s') c.if-branch.false next.step in
    let said : IfOk c.writeln.result (λ _. string_bytes c.writeln.new.self ≡ text' ++ verdict_text (answer (model_of s'.inspection.now) verdict)) = search rules in
    record {
      text = IfOk-weaker c.writeln.result _ _ (λ _ e. e ∙ last_line h s' text' wrote) said;
      left = made_so c.writeln.result (last_left h s' text' wrote);
      borrowed = next.on.borrowed ∙ h.borrowed;
      lines = grown_on c.args.self.now.inspection.now s.inspection.now s'.inspection.now h.grown next.on.lines;
    }
