-- Lines that grow and grow on. Assumes nothing.
use Rattle.std.proofs.Common.{◌≡◌, ◌≤◌, length, sym, refl, ap, ◌∙◌, subst, arith}
use Rattle.fields.specs.declared.walk.Reader.{Reader}
use Rattle.calls.specs.Calls.{Answer, Call}
use Rattle.calls.specs.Models.{overlay}
use Rattle.inspection.specs.Held.{model_of}
use Rattle.inspection.specs.declared.state.Inspection.{Inspection}
use Rattle.inspection.specs.Told.{Does}
use Rattle.inspection.proofs.Adding.{after_grows}
use Rattle.inspection.proofs.Overlays.{overlay_same, overlay_twice}
use Rattle.run.specs.Steps.{Continues, LinesGrow}
use Rattle.run.specs.declared.runs.Run.{Run}

pub lines_stay : (s : Inspection) → LinesGrow s s
lines_stay s = record { more = omega arith; table = sym (overlay_same s.lines.now s.made); lent = refl }

-- a table that was laid over twice is laid over by the later lines
pub grown_on : (a b c : Inspection) → LinesGrow a b → LinesGrow b c → LinesGrow a c
grown_on a b c first next =
    record {
      more = omega (arith, first.more, next.more);
      table = next.table ∙ ap (overlay (model_of c).lines) first.table ∙ overlay_twice (model_of b).lines (model_of c).lines a.lines.now next.more;
      lent = next.lent ∙ first.lent;
    }

pub stays : (s : Run) → Continues s s
stays s = record { borrowed = refl; bytes = refl; file = refl; lines = lines_stay s.inspection.now }

pub then_on : (a b c : Run) → Continues a b → Continues b c → Continues a c
then_on a b c first next = record { borrowed = next.borrowed ∙ first.borrowed; bytes = next.bytes ∙ first.bytes; file = next.file ∙ first.file; lines = grown_on a.inspection.now b.inspection.now c.inspection.now first.lines next.lines }

-- a call makes the lines grow
pub call_grows : {said : Answer} (call : Call) (s s' : Inspection) → Does said call s s' → LinesGrow s s'
call_grows call s s' done = record { more = subst (λ m. length (model_of s).lines ≤ length m.lines) (sym done.after) (after_grows (model_of s) call); table = done.table; lent = done.lent }

-- a field was read, and its call made the lines grow
pub read_on : (s : Run) (r : Reader) (i : Inspection) → (r.bytes.now ≡ s.reader.bytes.now) × (r.source ≡ s.reader.source) → LinesGrow s.inspection.now i → Continues s (record { reader = r; inspection = record s.inspection { now = i } })
read_on s r i same grown = record { bytes = same.0; file = same.1; borrowed = refl; lines = grown }
