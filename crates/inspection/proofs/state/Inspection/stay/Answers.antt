use Rattle.std.proofs.Common.{rules}
use Rattle.calls.specs.Calls.{stay}
use Rattle.inspection.specs.Told.{Does, told_line}
use Rattle.inspection.specs.Held.{model_of}
use Rattle.inspection.proofs.Accepting.{stay_calculus}
use Rattle.inspection.proofs.state.Inspection.stay.Goals as goal

pub returns : goal.returns
returns c =
    let s = c.args.self.now in
    let m = model_of s in
    let does : Does (told_line c.store.result) (stay c.args.number) s c.store.new.self = search rules in
    record { does = does; calculus = stay_calculus m s.lawful c.args.number _ _ does.answer does.after }
