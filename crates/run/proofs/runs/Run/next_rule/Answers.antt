use Rattle.std.proofs.Common.{◌≡◌, ◌+◌, Some, Ok, Err, sym, ap, ◌∙◌, subst}
use Rattle.std.proofs.lemmas.Result.{err_from_is_err_and}
use Rattle.clauses.specs.Refusals.{number_of}
use Rattle.fields.specs.declared.shapes.Source.TheVariants as source
use Rattle.fields.specs.Parse.{parse, told, shows}
use Rattle.fields.specs.Shown.{rule}
use Rattle.inspection.specs.Held.{model_of}
use Rattle.run.specs.Files.{items_from}
use Rattle.run.specs.Runs.{rules_from, rule_call, stopped}
use Rattle.run.specs.Steps.{OneRule}
use Rattle.run.specs.declared.runs.Run.{Run}
use Rattle.run.proofs.Continuing.{call_grows, read_on}
use Rattle.run.proofs.Stepping.{found_at, items_at, rule_taken, rule_refused, refused_leaves}
use Rattle.run.proofs.runs.Run.next_rule.Goals as goal
use Rattle.run.proofs.runs.Run.next_rule.Goals.{In-Rule}

-- the field is a rule
shown : (c : In-Rule) → parse source.Book c.args.self.now.reader.bytes.now c.args.self.now.reader.place ≡ shows (rule c.in-Rule.kind c.in-Rule.index c.in-Rule.left.now c.in-Rule.right.now) c.next_field.new.self.place
shown c = found_at c.args.self.now.reader _ c.requires.book c.in_ok-field.ensures.value ∙ ap (λ o. told (Ok o) c.next_field.new.self.place) (c.in-Some.is ∙ ap Some c.in-Rule.is)

pub returns-in_err-line-clause-on : goal.returns-in_err-line-clause-on
returns-in_err-line-clause-on c = read_on c.args.self.now c.next_field.new.self c.take_rule.new.inspection c.next_field.ensures.same (call_grows (rule_call c.in-Rule.kind c.in-Rule.index c.in-Rule.left.now c.in-Rule.right.now) _ _ c.in_err-line.ensures)

pub returns-in_err-line-clause-step : goal.returns-in_err-line-clause-step
returns-in_err-line-clause-step c =
    let at = (goal.at.returns-in_err-line-clause-step c).In-Rule in
    let r = c.args.self.now.reader in
    let m = model_of c.args.self.now.inspection.now in
    let after : Run = record { reader = c.next_field.new.self; inspection = record c.args.self.now.inspection { now = c.take_rule.new.inspection } } in
    let p = err_from_is_err_and c.from_residual-in_err-line.result c.from_residual-in_err-line.ensures.1 in
    let no = c.in_err-line.ensures in
    let unchanged = no.after ∙ refused_leaves m c.in-Rule.kind c.in-Rule.index c.in-Rule.left.now c.in-Rule.right.now _ no.answer in
    subst (λ x. OneRule x c.args.self.now after) (sym (p.1 ∙ ap Err p.2)) (λ k n.
    ap (rules_from m n) (items_at k source.Book r.bytes.now r.place _ (shown at))
    ∙ rule_refused m c.in-Rule.kind c.in-Rule.index c.in-Rule.left.now c.in-Rule.right.now r.place n _ (items_from k source.Book r.bytes.now after.reader.place) no.answer
    ∙ ap (λ w. stopped w.lines (number_of c.in_err-line.field-0.0) r.place) (sym unchanged))

pub returns-clause-on : goal.returns-clause-on
returns-clause-on c = read_on c.args.self.now c.next_field.new.self c.take_rule.new.inspection c.next_field.ensures.same (call_grows (rule_call c.in-Rule.kind c.in-Rule.index c.in-Rule.left.now c.in-Rule.right.now) _ _ c.in_ok-line.ensures)

pub returns-clause-step : goal.returns-clause-step
returns-clause-step c =
    let at = (goal.at.returns-clause-step c).In-Rule in
    let r = c.args.self.now.reader in
    let r' = c.next_field.new.self in
    let m = model_of c.args.self.now.inspection.now in
    let m' = model_of c.take_rule.new.inspection in
    let yes = c.in_ok-line.ensures in
    λ k n.
    ap (rules_from m n) (items_at k source.Book r.bytes.now r.place _ (shown at))
    ∙ rule_taken m c.in-Rule.kind c.in-Rule.index c.in-Rule.left.now c.in-Rule.right.now m' r.place n _ (items_from k source.Book r.bytes.now r'.place) yes.answer yes.after
    ∙ ap (λ b. rules_from m' (n + 1) (items_from k source.Book b r'.place)) (sym c.next_field.ensures.same.0)
