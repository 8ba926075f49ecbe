use Rattle.std.proofs.Common.{refl}
use Rattle.calls.specs.Calls.{line_at, resolve, resolve_causes, resolved_of}
use Rattle.inspection.specs.Told.{told_line}
use Rattle.inspection.specs.Held.{model_of}
use Rattle.inspection.proofs.Accepting.{resolve_calculus}
use Rattle.inspection.proofs.Adding.{made, not_made}
use Rattle.inspection.proofs.state.Inspection.resolve.Goals as goal

pub returns-in_err-line : goal.returns-in_err-line
returns-in_err-line c =
    let s = c.args.self.now in
    let m = model_of s in
    let does = not_made s (resolve c.args.a c.args.b c.args.literal) (resolve_causes m.loops (line_at m.lines c.args.a) (line_at m.lines c.args.b) c.args.literal) refl _ _ c.from_residual.ensures.1 c.in_err-line.ensures in
    record { does = does; calculus = resolve_calculus m s.lawful c.args.a c.args.b c.args.literal _ _ does.answer does.after }

pub returns : goal.returns
returns c =
    let s = c.args.self.now in
    let m = model_of s in
    let x = line_at m.lines c.args.a in
    let y = line_at m.lines c.args.b in
    let does = made s (resolve c.args.a c.args.b c.args.literal) (resolve_causes m.loops x y c.args.literal) refl (resolved_of x y c.args.literal) c.store.new.self (told_line c.store.result) c.in_ok-line.line refl refl c.in_ok-line.ensures c.store.ensures in
    record { does = does; calculus = resolve_calculus m s.lawful c.args.a c.args.b c.args.literal _ _ does.answer does.after }
