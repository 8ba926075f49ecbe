use Rattle.std.proofs.Common.{◌≡◌, ℕ, ◌<◌}
use Rattle.truth.specs.Truth.{right_at}
use Rattle.judging.specs.Marks.{marked}
use Rattle.judging.proofs.marks.Marked.mark_right.Given as goal

-- the states so far are marked where the right holds
abbrev pub invariant-loop-state : goal.invariant-loop-state
invariant-loop-state g l =
    (k : ℕ) → k < l.state → marked l.mark-items k ≡ right_at (g.P.Plan.system l.plan) l.right k
