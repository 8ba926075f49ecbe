-- The number of each refusal of a plan. Assumes nothing.
use Rattle.std.specs.Prelude.{ℕ}
use Rattle.plans.specs.declared.refusals.PlanRefusal.{PlanRefusal}
use Rattle.plans.specs.declared.refusals.PlanRefusal.TheVariants.{TableTooShort, NotAscending, OutOfRange}

abbrev pub plan_number : PlanRefusal → ℕ
plan_number TableTooShort = 6
plan_number NotAscending = 9
plan_number OutOfRange = 19
