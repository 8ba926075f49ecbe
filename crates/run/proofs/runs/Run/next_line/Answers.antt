use Rattle.run.proofs.Continuing.{read_on}
use Rattle.run.proofs.Working.{field_grows}
use Rattle.run.proofs.runs.Run.next_line.Goals as goal

pub returns-in_err-line-clause-on : goal.returns-in_err-line-clause-on
returns-in_err-line-clause-on c =
    let done = c.in_err-line.ensures in
    read_on c.args.self.now c.next_field.new.self c.perform.new.inspection c.next_field.ensures.same (field_grows _ _ _ _ done.did done.table done.lent)

pub returns-clause-on : goal.returns-clause-on
returns-clause-on c =
    let done = c.in_ok-line.ensures in
    read_on c.args.self.now c.next_field.new.self c.perform.new.inspection c.next_field.ensures.same (field_grows _ _ _ _ done.did done.table done.lent)
