use Rattle.inspection.specs.Held.{model_of}
use Rattle.inspection.proofs.Finding.{found, found_allowed}
use Rattle.inspection.proofs.state.Inspection.line_at.Goals as goal

pub returns : goal.returns
returns c =
    let s = c.args.self.now in
    let got = c.get.ensures.lookup in
    let at = found (model_of s) s.lawful s.indexed c.args.number (λ b. b.now) c.get.result got.0 got.1 in
    let allowed = found_allowed (model_of s) s.lawful s.indexed c.args.number (λ b. b.now) c.get.result at in
    rw c.ok_or.ensures.value (record { value = at; allowed = allowed })
