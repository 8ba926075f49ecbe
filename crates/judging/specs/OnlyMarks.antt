-- What the methods of a plan with its marks leave as it was. Assumes nothing.
use Rattle.std.specs.Prelude.{◌≡◌}
use Rattle.plans.specs.declared.questions.Plan.{Ghosts}
use Rattle.judging.specs.declared.marks.Marked.{Marked}

-- only the marks may be others: the plan is the same, and so is who lent the marks
pub record OnlyMarks {P : Type 0} {Plan : Ghosts P} (before later : Marked P Plan) : Type 0 where
  pub plan : later.plan ≡ before.plan
  pub lent : later.marks.ghost_name ≡ before.marks.ghost_name
