-- The number and the layer of a fault. Assumes nothing.
use Rattle.std.specs.Prelude.{ℕ}
use Rattle.clauses.specs.Refusals.{number_of}
use Rattle.fields.specs.Flaws.{flaw_number}
use Rattle.plans.specs.Refusals.{plan_number}
use Rattle.run.specs.declared.faults.Layer.{Layer}
use Rattle.run.specs.declared.faults.Layer.TheVariants as layer
use Rattle.run.specs.declared.faults.Refused.{Refused}
use Rattle.run.specs.declared.faults.Refused.TheVariants.{Reader, Plan, Inspection}

abbrev pub refused_number : Refused → ℕ
refused_number (Reader fault) = flaw_number fault.flaw
refused_number (Plan refusal) = plan_number refusal
refused_number (Inspection refusal) = number_of refusal

abbrev pub layer_of : Refused → Layer
layer_of (Reader fault) = layer.Reader
layer_of (Plan refusal) = layer.Plan
layer_of (Inspection refusal) = layer.Inspection
