use Rattle.std.proofs.Common.{◌+◌, ◌++◌, length, string_bytes, Ok, sym, ap, ◌∙◌, append_assoc, subst}
use Rattle.run.specs.Steps.{OneLine, Onward, lines_ahead}
use Rattle.run.specs.Text.{line_text}
use Rattle.run.proofs.runs.Run.write_next.Goals as goal

pub returns-in_ok-write_outcome-in-Ok-Some-clause-step : goal.returns-in_ok-write_outcome-in-Ok-Some-clause-step
returns-in_ok-write_outcome-in-Ok-Some-clause-step c =
    let s = c.args.self.now in
    let s' = c.next_line.new.self in
    let n = c.args.number in
    let text = string_bytes c.args.text.now in
    let line = line_text n c.in-Ok-Some.line in
    let is = c.in-Ok-Some.is ∙ ap Ok c.in-Ok-Some.field-0-is in
    let on = subst (λ x. Onward x (length s.reader.bytes.now) s.reader.place s'.reader.place) is c.next_line.ensures.moves in
    let step = subst (λ x. OneLine x s s') is c.next_line.ensures.step in
    let wrote = c.in_ok-write_outcome-in-Ok-Some.ensures 0 in
    (on, λ j. let rest = lines_ahead j s' (n + 1) in ap (λ t. t ++ rest) wrote ∙ append_assoc text line rest ∙ ap (λ t. text ++ t) (sym (step.0 j n)), step.1)
