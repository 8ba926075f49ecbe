use Rattle.std.proofs.Common.{◌≡◌, length, Ok, Err, None, sym, ap, ◌∙◌, subst, rules}
use Rattle.inspection.specs.Held.{model_of}
use Rattle.run.specs.Faults.{refused_number}
use Rattle.run.specs.Runs.{stopped}
use Rattle.run.specs.Steps.{AllRules, OneRule, Onward}
use Rattle.run.proofs.Continuing.{then_on}
use Rattle.run.proofs.Taking.{start, ends, one_more}
use Rattle.run.proofs.runs.Run.take_rules.Goals as goal

pub loop-taken-init : goal.loop-taken-init
loop-taken-init c = start c.args.self.now c.requires

pub loop-taken-preserved : goal.loop-taken-preserved
loop-taken-preserved c =
    let s = c.loop-taken.self in
    let s' = c.next_rule.new.self in
    let next = c.next_rule.ensures in
    let took : c.next_rule.result ≡ Ok c.in_ok-taken.taken = search rules in
    let some = took ∙ ap Ok c.in-Some.is in
    let on = subst (λ o. Onward o (length s.reader.bytes.now) s.reader.place s'.reader.place) some next.moves in
    one_more c.loop-taken.invariant s' next.on on.0 on.1 (subst (λ o. OneRule o s s') some next.step)

pub returns-in_default : goal.returns-in_default
returns-in_default c =
    let s = c.loop-taken.self in
    let s' = c.next_rule.new.self in
    let h = c.loop-taken.invariant in
    let none : c.next_rule.result ≡ Ok None = search rules in
    let step = subst (λ o. OneRule o s s') none c.next_rule.ensures.step in
    record {
      file = tt;
      rules = ends h _ (λ k. step k c.loop-taken.count);
      on = then_on c.args.self.now s s' h.on c.next_rule.ensures.on;
    }

pub returns-in_err-taken-clause-on : goal.returns-in_err-taken-clause-on
returns-in_err-taken-clause-on c = then_on c.args.self.now c.loop-taken.self c.next_rule.new.self c.loop-taken.invariant.on c.next_rule.ensures.on

pub returns-in_err-taken-clause-rules : goal.returns-in_err-taken-clause-rules
returns-in_err-taken-clause-rules c =
    let s = c.loop-taken.self in
    let s' = c.next_rule.new.self in
    let fault = c.in_err-taken.field-0.0 in
    let no : c.next_rule.result ≡ Err fault.refused = search rules in
    let at : fault.offset ≡ s.reader.place = search rules in
    let told : c.from_residual.result ≡ Err fault = search rules in
    let step = subst (λ x. OneRule x s s') no c.next_rule.ensures.step in
    subst (λ x. AllRules x c.args.self.now s') (sym told) (ends c.loop-taken.invariant _ (λ k. step k c.loop-taken.count ∙ ap (stopped (model_of s'.inspection.now).lines (refused_number fault.refused)) (sym at)))
