use Rattle.std.proofs.Common.{true, false, [], take, Some, sym, refl, ap, ◌∙◌}
use Rattle.clauses.specs.Refusals.{number_of}
use Rattle.calls.specs.Calls.{rule}
use Rattle.calls.specs.Lawful.{lawful_line}
use Rattle.calls.specs.Waits.{admitted, waitless}
use Rattle.inspection.specs.Held.{model_of}
use Rattle.inspection.specs.Waits.{given_out}
use Rattle.calls.proofs.Keeping.{rule_indexed, rule_lawful}
use Rattle.inspection.proofs.Given.{admit_lawful}
use Rattle.inspection.proofs.Adding.{ill_formed, last, not_done}
use Rattle.inspection.proofs.state.Inspection.rule.Goals as goal

pub returns-in_err-line : goal.returns-in_err-line
returns-in_err-line c =
    let s = c.args.self.now in
    not_done s s (rule c.args.kind c.args.index c.args.left.now c.args.right.now) _ _ c.from_residual.ensures.1 (ill_formed (model_of s) c.args.kind c.args.index c.args.left.now c.args.right.now _ c.in_err-line.ensures) refl refl

pub returns-in_err-has_room : goal.returns-in_err-has_room
returns-in_err-has_room c =
    let s = c.args.self.now in
    let formed = c.in_ok-line.ensures in
    let no = c.in_err-has_room.ensures in
    let cause = last (model_of s) c.args.kind c.args.index c.args.left.now c.args.right.now c.in_ok-line.line true _ formed.0 formed.1 no.1 refl in
    not_done s s (rule c.args.kind c.args.index c.args.left.now c.args.right.now) _ _ c.from_residual-in_err-has_room.ensures.1 (cause ∙ ap (λ e. Some (number_of e)) (sym no.0)) refl refl

pub returns-in_err-admit : goal.returns-in_err-admit
returns-in_err-admit c =
    let s = c.args.self.now in
    let m = model_of s in
    let formed = c.in_ok-line.ensures in
    let no = c.in_err-admit.ensures in
    let cause = last m c.args.kind c.args.index c.args.left.now c.args.right.now c.in_ok-line.line false true formed.0 formed.1 c.in_ok-has_room.ensures (ap (waitless m.waits) (sym c.of.ensures) ∙ no.1) in
    let same = ap (λ ws. record { indices = s.indices; room = s.room; lines = m.lines; waits = given_out ws; loops = [] }) no.2 in
    not_done s _ (rule c.args.kind c.args.index c.args.left.now c.args.right.now) _ _ c.from_residual-in_err-admit.ensures.1 (cause ∙ ap (λ e. Some (number_of e)) (sym no.0)) same refl

pub put-requires-clause-allowed : goal.put-requires-clause-allowed
put-requires-clause-allowed c =
    let s = c.args.self.now in
    let formed = c.in_ok-line.ensures in
    let x = c.in_ok-line.line in
    record {
      lawful = ap (λ ws. lawful_line ws x) (c.in_ok-admit.ensures.1 ∙ ap (admitted (given_out s.waits)) c.of.ensures) ∙ rule_lawful (given_out s.waits) s.indices c.args.kind c.args.index c.args.left.now c.args.right.now x formed.0 formed.1;
      indexed = rule_indexed s.indices c.args.kind c.args.index c.args.left.now c.args.right.now x formed.1;
    }

pub invariant_of-self-clause-lawful : goal.invariant_of-self-clause-lawful
invariant_of-self-clause-lawful c =
    let s = c.args.self.now in
    admit_lawful c.admit.result s.waits c.admit.new.self c.of.result (take s.made s.lines.now) c.admit.ensures s.lawful
