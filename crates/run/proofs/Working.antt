-- The lines after one field of a work. Assumes nothing.
use Rattle.std.proofs.Common.{◌≡◌, ℕ, Some, None, Option, Result}
use Rattle.clauses.specs.declared.refusals.Refusal.{Refusal}
use Rattle.calls.specs.Calls.{Call}
use Rattle.calls.specs.Models.{overlay}
use Rattle.inspection.specs.Held.{model_of}
use Rattle.inspection.specs.declared.state.Inspection.{Inspection}
use Rattle.run.specs.Steps.{Did, LinesGrow}
use Rattle.run.proofs.Continuing.{call_grows}

pub field_grows : (o : Option Call) (x : Result ℕ Refusal) (s s' : Inspection) → Did o x (model_of s) (model_of s') → s'.lines.now ≡ overlay (model_of s').lines s.lines.now → s'.lines.ghost_name ≡ s.lines.ghost_name → LinesGrow s s'
field_grows None x s s' none table lent = absurd none
field_grows (Some c) x s s' did table lent = call_grows c s s' (record { answer = did.0; after = did.1; table = table; lent = lent })
